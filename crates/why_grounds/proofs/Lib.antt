pub mod Agrees
pub mod Grounds
pub mod Told
