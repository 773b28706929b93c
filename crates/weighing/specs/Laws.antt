-- The laws of weights.
pub mod Weights
pub mod Chains
pub mod Settling
