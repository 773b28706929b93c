-- The laws of lent.
pub mod Bytes
pub mod Numbers
pub mod Measured
pub mod Settled
