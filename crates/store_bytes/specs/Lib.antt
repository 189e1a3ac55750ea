pub mod LocalsWrote
