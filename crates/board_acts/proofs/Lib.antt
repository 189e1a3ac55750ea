pub mod Acting
pub mod Exact
pub mod Unique
