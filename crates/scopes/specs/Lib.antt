pub mod Frames
pub mod Hints
pub mod Labels
pub mod Laws
pub mod Walks
