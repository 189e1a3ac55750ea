pub mod Agree
pub mod Examples
pub mod Ground
