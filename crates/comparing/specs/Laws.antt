-- The laws of comparing.
pub mod Traced
