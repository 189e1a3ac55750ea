pub mod Bounds
pub mod Scans
pub mod Values
