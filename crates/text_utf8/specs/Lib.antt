pub mod Locals
pub mod Text
pub mod Trim
