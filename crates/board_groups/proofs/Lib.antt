pub mod Beside
pub mod Count
pub mod Near
pub mod Once
pub mod Others
pub mod Own
pub mod Partly
