-- The laws of the runner.
pub mod Runs
pub mod Turns
