pub mod Decoding
pub mod Moving
