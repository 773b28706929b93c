-- The laws of alternatives.
pub mod Starts
