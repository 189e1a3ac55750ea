pub mod Locals
pub mod SizeInC
