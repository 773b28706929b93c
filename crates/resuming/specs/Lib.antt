pub mod Asked
pub mod Told
pub mod Laws
