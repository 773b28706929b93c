-- The laws of running.
pub mod Outcome
