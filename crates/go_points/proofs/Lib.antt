pub mod Areas
pub mod Letters
