pub mod Ending
pub mod Inks
pub mod Quiets
pub mod Steadies
pub mod Taking
