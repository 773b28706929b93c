pub mod Laid
pub mod Traced
pub mod Laws
