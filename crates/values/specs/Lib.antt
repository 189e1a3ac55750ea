pub mod Decimal
pub mod Read
