pub mod Locals
pub mod Nodes
