pub mod Acts
pub mod Turns
pub mod Traces
pub mod Laws
