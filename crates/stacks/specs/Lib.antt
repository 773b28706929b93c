pub mod Stacks
pub mod Laws
