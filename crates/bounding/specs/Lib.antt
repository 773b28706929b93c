pub mod Filling
pub mod Mains
pub mod Laws
