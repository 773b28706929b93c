-- The laws of summaries.
pub mod Truth
pub mod Values
pub mod Exact
pub mod Summaries
pub mod Gathering
