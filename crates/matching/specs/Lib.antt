pub mod Named
pub mod Matching
pub mod Room
pub mod Laws
