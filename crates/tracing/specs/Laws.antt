-- The laws of tracing.
pub mod Acts
pub mod Steps
pub mod Turns
pub mod Reached
pub mod Traces
pub mod Answers
