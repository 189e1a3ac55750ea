pub mod Marks
pub mod Normal
pub mod Value
