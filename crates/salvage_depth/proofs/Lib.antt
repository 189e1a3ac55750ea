pub mod Climbed
pub mod Counted
pub mod Examples
pub mod Opened
pub mod Steps
pub mod Theorem
