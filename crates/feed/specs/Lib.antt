pub mod Feed
pub mod Find
pub mod LocalsNext
pub mod Made
