pub mod Resolving
pub mod Laws
