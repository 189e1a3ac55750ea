pub mod LocalsMeasure
pub mod Measure
