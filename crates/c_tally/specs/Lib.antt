pub mod LineInC
pub mod TallyInC
