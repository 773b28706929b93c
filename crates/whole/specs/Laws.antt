pub mod Between
pub mod GroupKeys
pub mod WalkKeys
pub mod Whole
pub mod Written
