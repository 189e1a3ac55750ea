pub mod Alike
pub mod Back
pub mod Depth
pub mod Examples
pub mod Needed
pub mod Same
pub mod SizeExamples
