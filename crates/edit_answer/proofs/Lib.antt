pub mod Fitting
pub mod Judged
pub mod Tested
