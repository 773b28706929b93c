pub mod Filling
pub mod Laws
pub mod Memory
pub mod Shown
pub mod Steps
