-- The laws of an accepted description's run.
pub mod Prepared
pub mod Outcome
