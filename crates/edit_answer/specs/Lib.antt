pub mod Answer
pub mod Edit
pub mod Locals
