pub mod Refusals
pub mod Positions
