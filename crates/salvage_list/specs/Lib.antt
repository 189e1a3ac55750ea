pub mod ChangeExamples
pub mod ListRows
pub mod Listed
pub mod LocalsFound
pub mod LocalsPuts
pub mod LocalsWalk
