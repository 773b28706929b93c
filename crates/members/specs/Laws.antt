-- The laws of members.
pub mod Cells
