pub mod Fits
pub mod Summaries
pub mod Laws
