pub mod Bounded
pub mod Laws
