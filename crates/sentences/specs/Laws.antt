-- The laws of sentences.
pub mod Sentences
pub mod Own
