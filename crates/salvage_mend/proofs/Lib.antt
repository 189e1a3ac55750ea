pub mod Games
pub mod Told
