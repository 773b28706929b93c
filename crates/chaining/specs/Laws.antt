-- The laws of chaining.
pub mod Calls
pub mod Firsts
pub mod Numbers
pub mod Walks
