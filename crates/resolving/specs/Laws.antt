-- The laws of meanings.
pub mod Marking
