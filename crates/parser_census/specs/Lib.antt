pub mod LocalsCensus
pub mod LocalsCount
