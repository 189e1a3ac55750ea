-- `crates::proofs` meets its contract. Assumes nothing.
pub mod Chains
pub mod Depths
pub mod Entries
pub mod Examples
pub mod Kept
pub mod Latest
pub mod Lists
pub mod Loads
pub mod Nodes
pub mod Shaping
pub mod Siblings
pub mod Spines
pub mod Sums
pub mod Theorem
pub mod Turns
pub mod Walking
