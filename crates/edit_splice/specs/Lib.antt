pub mod Locals
pub mod Splice
