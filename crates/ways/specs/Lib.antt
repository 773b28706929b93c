pub mod Laws
pub mod Linked
pub mod Prefixes
pub mod Seeking
pub mod Stack
pub mod Standing
pub mod Turns
