pub mod Lent
pub mod LocalsKnown
pub mod LocalsMild
pub mod LocalsSlices
