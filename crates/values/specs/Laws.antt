-- The laws of the rules' values, each for any length.
pub mod Fields
pub mod Cuts
pub mod Bits
pub mod Results
pub mod Operators
