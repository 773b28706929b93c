pub mod Cited
pub mod Laws
pub mod Examples
