pub mod Judging
pub mod Owned
pub mod Unique
