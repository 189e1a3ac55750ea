pub mod Fit
pub mod Locals
pub mod Record
