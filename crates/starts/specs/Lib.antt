pub mod Starts
pub mod Sought
pub mod Laws
