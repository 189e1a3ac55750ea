pub mod LocalsFlat
pub mod LocalsTree
pub mod LocalsTurns
pub mod LocalsWalks
