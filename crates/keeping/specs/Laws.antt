-- The laws of keeping.
pub mod Answered
pub mod Calls
