pub mod LocalsMeasured
pub mod LocalsRooted
pub mod Measured
pub mod Rooted
