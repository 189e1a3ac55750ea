pub mod Locals
pub mod Tally
