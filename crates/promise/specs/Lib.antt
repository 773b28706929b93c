pub mod Accesses
pub mod Instructions
pub mod Reached
pub mod Promise
pub mod Laws
