pub mod Escapes
pub mod Escaped
pub mod Valid
