-- The laws of spelling.
pub mod Letters
pub mod Cells
pub mod Trees
pub mod Growing
