-- The laws of names of words and bits.
pub mod Spans
