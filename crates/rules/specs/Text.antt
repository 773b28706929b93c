pub mod Bytes
pub mod Tokens
pub mod Constants
pub mod Scan
