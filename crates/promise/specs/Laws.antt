-- The laws of the promise.
pub mod Reached
