pub mod Reported
pub mod Laws
