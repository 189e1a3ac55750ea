pub mod LocalsSought
pub mod LocalsTrees
pub mod Trees
pub mod Why
