-- The laws of turns over a table in bytes.
pub mod Taking
pub mod Turns
pub mod Views
pub mod Words
