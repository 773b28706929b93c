-- The laws of lent names.
pub mod Bytes
pub mod Names
