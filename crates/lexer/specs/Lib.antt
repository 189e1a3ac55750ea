pub mod Closed
pub mod Move
pub mod Step
pub mod Token
