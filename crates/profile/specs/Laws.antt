-- The laws of the program `profile`.
pub mod Report
