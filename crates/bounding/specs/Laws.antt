-- The laws of bounding.
pub mod Machine
pub mod Knowing
pub mod Filling
pub mod Mains
