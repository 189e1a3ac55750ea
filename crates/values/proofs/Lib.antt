pub mod Bounds
pub mod Digits
pub mod RoundTrip
pub mod Safe
pub mod Spelling
pub mod Steps
