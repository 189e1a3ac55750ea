pub mod Close
pub mod LocalsRun
