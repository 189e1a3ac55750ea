pub mod Checked
pub mod Corrected
pub mod Exactly
pub mod Lengths
pub mod Shown
pub mod Unique
