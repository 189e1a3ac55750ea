pub mod LocalsFlood
pub mod LocalsShort
pub mod LocalsSides
pub mod Take
