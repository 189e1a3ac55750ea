pub mod Decodes
pub mod Entries
pub mod Lying
pub mod Making
pub mod OneForm
pub mod Unique
