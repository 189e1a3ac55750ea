pub mod Again
pub mod Entries
pub mod MendedExamples
pub mod Result
pub mod Tail
