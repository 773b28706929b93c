-- The laws of NOTs.
pub mod Nots
