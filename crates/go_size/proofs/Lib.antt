pub mod Colons
pub mod Sizes
pub mod Unique
