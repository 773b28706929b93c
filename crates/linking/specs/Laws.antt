-- The laws of linked entries.
pub mod Seeking
pub mod Puts
pub mod Chains
