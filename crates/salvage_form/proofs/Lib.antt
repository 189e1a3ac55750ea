-- `crates::proofs` meets its contract. Assumes nothing.
pub mod Counted
pub mod Lengths
pub mod Measuring
pub mod Rooting
pub mod Roots
pub mod Scanned
pub mod Unique
