pub mod Lent
pub mod Sides
pub mod Trees
pub mod Unique
