pub mod Listing
pub mod Standing
