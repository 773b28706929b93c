pub mod Early
pub mod Least
pub mod Marks
