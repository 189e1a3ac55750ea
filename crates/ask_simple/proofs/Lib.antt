pub mod Answers
pub mod Simples
pub mod Unique
