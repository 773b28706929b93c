-- The laws of what is noted.
pub mod Parts
pub mod Telling
