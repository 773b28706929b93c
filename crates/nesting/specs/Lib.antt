pub mod Spelt
pub mod Machine
pub mod Holding
pub mod Grouping
pub mod Jumping
pub mod Laws
