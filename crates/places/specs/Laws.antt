-- The laws of places.
pub mod Spans
pub mod Valued
pub mod Brackets
pub mod Given
pub mod Scene
pub mod Bases
pub mod Reaching
pub mod Apart
pub mod Counting
pub mod Placing
