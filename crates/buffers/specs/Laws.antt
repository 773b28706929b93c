-- The laws of buffers.
pub mod Buffers
