pub mod Agrees
pub mod Going
pub mod Props
pub mod Searched
pub mod Seeking
pub mod Texts
pub mod Trees
