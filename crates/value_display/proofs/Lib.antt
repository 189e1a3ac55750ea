pub mod Displays
pub mod Examples
pub mod Formats
pub mod Lines
pub mod OneLine
pub mod Shown
pub mod Sizes
pub mod Texts
