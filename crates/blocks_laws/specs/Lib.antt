pub mod Begins
pub mod Calls
pub mod LocalsListed
pub mod Numbered
pub mod Reading
