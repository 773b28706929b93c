-- The laws of two texts' call.
pub mod Unread
pub mod Numbers
pub mod Turned
pub mod Outcome
