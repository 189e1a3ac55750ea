pub mod Digits
pub mod Putting
pub mod Tags
pub mod Unique
