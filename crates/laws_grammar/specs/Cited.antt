pub mod Answer
pub mod Heads
pub mod Kinds
pub mod Nesting
pub mod Positions
pub mod Rows
pub mod Shunting
