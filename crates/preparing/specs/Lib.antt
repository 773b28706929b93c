pub mod Prepared
pub mod Outcome
pub mod Laws
