pub mod Ascents
pub mod Fused
pub mod Lent
pub mod Lists
pub mod Lying
pub mod Ranges
pub mod Scans
