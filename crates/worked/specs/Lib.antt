pub mod Edges
pub mod Worked
pub mod Starred
