pub mod Putting
pub mod Rows
pub mod Shifting
pub mod Unique
