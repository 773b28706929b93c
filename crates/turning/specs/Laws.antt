-- The laws of the ways that control takes.
pub mod Ways
