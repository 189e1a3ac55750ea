pub mod Lined
pub mod Unique
