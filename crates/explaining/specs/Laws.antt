-- The laws of explaining.
pub mod Again
pub mod Reasons
