-- The laws of marking.
pub mod Passed
pub mod Marked
pub mod Described
pub mod Holding
pub mod Acting
pub mod Going
pub mod Whole
