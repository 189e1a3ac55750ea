pub mod Answers
pub mod ByNumber
pub mod Goes
pub mod Search
pub mod Shows
