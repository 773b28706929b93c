pub mod Scene
pub mod Lengths
pub mod Names
pub mod Laws
