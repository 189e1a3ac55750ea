pub mod InMemory
pub mod Session
