pub mod Cuts
pub mod Ended
pub mod Faults
pub mod Found
pub mod Games
pub mod Held
pub mod Scans
pub mod Unique
