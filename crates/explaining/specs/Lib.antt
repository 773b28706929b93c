pub mod Again
pub mod Reasons
pub mod Laws
