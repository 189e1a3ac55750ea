pub mod Area
pub mod Handicap
