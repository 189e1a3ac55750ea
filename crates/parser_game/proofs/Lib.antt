pub mod GameValues
pub mod Gather
pub mod Variants
