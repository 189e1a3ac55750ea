pub mod Check
pub mod LocalsOwner
