pub mod Spelt
pub mod Machine
pub mod Acting
pub mod Going
pub mod Levels
pub mod Answers
