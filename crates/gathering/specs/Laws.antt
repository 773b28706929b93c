pub mod Filling
pub mod Memory
pub mod Shown
pub mod Steps
