-- The laws of night.
pub mod Sizes
