pub mod Changes
pub mod Mend
