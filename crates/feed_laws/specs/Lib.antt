pub mod Applied
pub mod Corrected
pub mod LocalsSweep
