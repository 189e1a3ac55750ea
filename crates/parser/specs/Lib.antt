pub mod Balance
pub mod Examples
pub mod Game
pub mod LocalsSlice
pub mod LocalsSurvey
pub mod Read
pub mod Split
pub mod Walk
