-- The laws of the walk.
pub mod Acting
pub mod Going
