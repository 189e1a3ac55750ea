pub mod LocalsRecord
pub mod Salvage
pub mod Worth
