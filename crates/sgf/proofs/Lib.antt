pub mod Asking
pub mod Reading
pub mod Shaped
pub mod UniqueIndex
pub mod UniqueNames
pub mod UniqueWhy
