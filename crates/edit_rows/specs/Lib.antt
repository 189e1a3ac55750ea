pub mod LocalsShift
