-- The laws of two descriptions over one table.
pub mod Words
pub mod Shapes
pub mod Standing
pub mod Meeting
pub mod Seeking
pub mod Joining
pub mod Joins
pub mod Turns
pub mod Lengths
pub mod Fronts
pub mod Judging
