pub mod Padded
pub mod Rows
pub mod Tests
pub mod White
pub mod Wide
pub mod Widths
