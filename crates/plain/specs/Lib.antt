pub mod Stage
pub mod Labels
pub mod Actions
pub mod Jumps
pub mod Prefixes
pub mod Laws
