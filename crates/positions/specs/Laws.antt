-- The laws of positions.
pub mod Cursors
