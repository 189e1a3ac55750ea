pub mod Edited
pub mod Lengths
pub mod OverMemory
pub mod Places
pub mod Texts
