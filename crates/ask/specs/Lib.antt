pub mod Ask
pub mod Locals
