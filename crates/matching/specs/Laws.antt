pub mod Groups
pub mod Room
pub mod Answering
pub mod Matched
