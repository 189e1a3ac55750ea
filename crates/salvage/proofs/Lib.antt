pub mod Again
pub mod Answers
pub mod Readings
pub mod Records
pub mod Refusals
pub mod Stays
pub mod Theorems
