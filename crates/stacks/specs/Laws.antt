-- The laws of names on a stack.
pub mod Kept
pub mod Index
pub mod Pushed
