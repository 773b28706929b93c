-- The laws of entries that are written.
pub mod Entries
pub mod Read
