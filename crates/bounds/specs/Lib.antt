pub mod Cited
pub mod Walk
