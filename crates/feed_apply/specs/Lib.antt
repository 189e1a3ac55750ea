pub mod Lent
pub mod LocalsAlong
pub mod LocalsSizes
pub mod LocalsText
