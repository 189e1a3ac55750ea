pub mod Locals
pub mod Root
pub mod Size
