pub mod Cells
pub mod Index
pub mod Lookup
pub mod Placed
pub mod Table
pub mod Unique
