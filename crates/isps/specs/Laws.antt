pub mod Calls
pub mod Orders
pub mod Profile
pub mod Keeping
pub mod Bound
pub mod Trace
