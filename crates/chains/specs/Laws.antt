pub mod Chains
pub mod Least
pub mod Mains
