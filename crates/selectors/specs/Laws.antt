-- The laws of selectors.
pub mod Alternatives
pub mod Trees
