pub mod Idle
pub mod Moves
pub mod Names
pub mod Nodes
pub mod Rows
pub mod Seen
pub mod Turning
pub mod Unique
