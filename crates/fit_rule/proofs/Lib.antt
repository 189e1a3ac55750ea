pub mod Denotes
pub mod Ruling
