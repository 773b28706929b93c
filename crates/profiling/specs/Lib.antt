pub mod Spelt
pub mod Walking
pub mod Going
pub mod Levels
pub mod Laws
