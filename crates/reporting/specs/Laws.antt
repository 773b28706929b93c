-- The laws of reporting.
pub mod Numbers
pub mod Reported
