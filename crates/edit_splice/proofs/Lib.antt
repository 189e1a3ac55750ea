pub mod May
pub mod Parted
pub mod Replaced
