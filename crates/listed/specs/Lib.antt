pub mod Named
pub mod Laws
