-- The laws of lasting.
pub mod Bounded
