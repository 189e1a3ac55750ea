pub mod LocalsSize
pub mod LocalsSlices
