-- The laws of blocks.
pub mod Sums
pub mod Blocks
pub mod Loops
pub mod Puts
