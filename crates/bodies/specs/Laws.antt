-- The laws of bodies.
pub mod Bodies
pub mod All
pub mod Places
pub mod Small
pub mod Fixed
