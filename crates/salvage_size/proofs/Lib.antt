pub mod Deepest
pub mod Examples
pub mod Slices
pub mod Writing
