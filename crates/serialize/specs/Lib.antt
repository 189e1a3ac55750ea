pub mod Branch
pub mod Form
pub mod Locals
pub mod LocalsWalk
pub mod LocalsWrite
