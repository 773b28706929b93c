pub mod Parsed
pub mod Read
pub mod Copied
pub mod Judged
pub mod Laws
