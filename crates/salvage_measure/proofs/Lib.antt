pub mod Accepts
pub mod Counting
pub mod Known
pub mod Measuring
pub mod Texts
pub mod Unique
