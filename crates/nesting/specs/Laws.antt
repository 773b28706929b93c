-- The laws of nesting.
pub mod Spelt
pub mod Holding
pub mod Grouping
pub mod Labels
