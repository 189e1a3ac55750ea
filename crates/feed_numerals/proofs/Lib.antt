pub mod Groups
pub mod RoundTrip
pub mod Spelling
pub mod Unique
