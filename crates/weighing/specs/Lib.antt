pub mod Weights
pub mod Chains
pub mod Settling
pub mod Laws
