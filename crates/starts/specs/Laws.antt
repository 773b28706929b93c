-- The laws of the beginning of a run.
pub mod Cases
pub mod Short
pub mod Passing
