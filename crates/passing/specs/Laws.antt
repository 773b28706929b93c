-- The laws of passing.
pub mod Telling
pub mod Depth
pub mod Climbing
pub mod Counting
pub mod Meeting
