pub mod Links
pub mod Nexts
pub mod Unique
pub mod Ways
