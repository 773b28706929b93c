pub mod Seeking
pub mod Laws
