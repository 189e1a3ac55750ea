pub mod Locals
pub mod LocalsParts
pub mod Ranges
pub mod Spans
