pub mod Numbers
pub mod Measured
pub mod Settled
pub mod Laws
