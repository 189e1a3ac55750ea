pub mod Playing
pub mod Points
pub mod Tagging
pub mod Unique
pub mod Walk
pub mod Writes
