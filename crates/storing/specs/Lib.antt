pub mod Parts
pub mod Transfers
pub mod Laws
