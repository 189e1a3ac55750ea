pub mod Decode
pub mod Lean
