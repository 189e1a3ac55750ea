pub mod Calls
pub mod Edits
pub mod Fresh
pub mod Run
