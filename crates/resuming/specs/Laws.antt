-- The laws of resuming.
pub mod Outputs
pub mod Mains
pub mod Near
pub mod Asked
pub mod Told
