pub mod LocalsIdentifier
pub mod Shape
