pub mod AskInC
pub mod ChangeInC
pub mod EscapeInC
pub mod NamedInC
pub mod ReadInC
