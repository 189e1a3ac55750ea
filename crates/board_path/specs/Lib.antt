pub mod LocalsNext
pub mod Way
