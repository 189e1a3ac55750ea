pub mod Valued
