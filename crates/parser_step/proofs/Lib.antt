pub mod Acts
pub mod Stacks
