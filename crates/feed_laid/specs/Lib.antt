pub mod Laid
pub mod OfMemory
