pub mod Kept
pub mod Slicing
pub mod When
