pub mod Locals
pub mod LocalsGM
