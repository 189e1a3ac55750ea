pub mod Display
pub mod LocalsShowing
