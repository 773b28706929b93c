pub mod Seeking
pub mod Answering
pub mod Walking
