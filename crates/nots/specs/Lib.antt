pub mod Nots
pub mod Laws
