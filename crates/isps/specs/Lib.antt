pub mod Demands
pub mod Why
pub mod Profile
pub mod Images
pub mod Bound
pub mod Trace
pub mod Laws
