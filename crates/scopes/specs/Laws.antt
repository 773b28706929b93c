pub mod Behind
pub mod Frames
pub mod Labels
pub mod Hints
pub mod Walks
