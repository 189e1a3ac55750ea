pub mod CallBack
pub mod CallsUndone
pub mod Gaps
pub mod OfFitting
pub mod OldBytes
pub mod Outcomes
pub mod Step
pub mod Undone
