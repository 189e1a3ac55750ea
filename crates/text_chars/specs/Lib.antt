pub mod LocalsDecode
pub mod Table
pub mod White
