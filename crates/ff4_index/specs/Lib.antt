pub mod Kinds
pub mod Listed
pub mod Locals
pub mod Places
