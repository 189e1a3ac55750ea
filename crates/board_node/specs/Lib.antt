pub mod Answer
pub mod LocalsSeen
pub mod LocalsTurn
pub mod Node
pub mod Seen
