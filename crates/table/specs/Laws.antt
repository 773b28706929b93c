-- The laws of the token table.
pub mod Operators
pub mod Kth
pub mod Scans
pub mod Positions
pub mod Bits
pub mod Views
pub mod Lookups
