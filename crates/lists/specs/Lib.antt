pub mod All
pub mod Once
pub mod Pick
pub mod Prelude
pub mod Put
pub mod Run
pub mod Same
