-- The laws of what is judged of an action without going into it.
pub mod Labels
pub mod Known
pub mod Passes
pub mod Simple
pub mod Forms
pub mod Prefixes
pub mod Stage
