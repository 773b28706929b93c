-- The laws of actions.
pub mod Members
pub mod Ranges
pub mod Compared
pub mod Choices
pub mod Counted
pub mod Fronts
pub mod Beginnings
pub mod Selected
pub mod Bare
pub mod Decoded
