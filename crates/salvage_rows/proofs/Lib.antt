pub mod Again
pub mod Denotes
pub mod Kept
pub mod Searching
pub mod Unique
