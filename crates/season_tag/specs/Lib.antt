pub mod Hex
pub mod Tag
