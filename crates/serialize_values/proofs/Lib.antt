pub mod Boxed
pub mod Forms
pub mod Plain
pub mod Variants
pub mod Writing
