pub mod Ways
pub mod Depth
pub mod Climbing
pub mod Laws
