pub mod Bounds
pub mod Leads
pub mod Steps
