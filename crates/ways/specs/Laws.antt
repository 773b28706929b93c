pub mod Ends
pub mod Firsts
pub mod Forms
pub mod Prefixes
pub mod Seeking
pub mod Stack
pub mod Standing
pub mod Turns
