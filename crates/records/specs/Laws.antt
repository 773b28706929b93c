-- The laws of records and words.
pub mod Words
pub mod Kept
