-- The laws of the reader.
pub mod Cases
pub mod Scanned
pub mod Tabled
pub mod Parsed
pub mod Read
pub mod Copied
pub mod Judged
