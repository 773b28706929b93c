-- The laws of entries.
pub mod Entries
