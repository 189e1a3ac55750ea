pub mod Acts
pub mod Playing
pub mod StepsOnce
pub mod Sums
pub mod Unique
