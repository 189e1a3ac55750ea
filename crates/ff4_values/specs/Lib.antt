pub mod Locals
pub mod Simple
