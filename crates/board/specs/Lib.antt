pub mod Answer
pub mod Locals
