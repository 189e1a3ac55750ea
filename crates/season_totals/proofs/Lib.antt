pub mod Chain
pub mod Sums
pub mod Texts
pub mod Theorems
pub mod Unique
