pub mod Parts
pub mod Transfers
