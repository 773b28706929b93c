-- The laws of the names of accesses.
pub mod Tests
pub mod Lookups
pub mod Lengths
pub mod Names
