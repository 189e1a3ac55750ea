pub mod Behind
pub mod Clear
pub mod Says
pub mod Scans
