pub mod Play
pub mod Steps
