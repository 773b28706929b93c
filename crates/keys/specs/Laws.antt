-- The laws of the keys of faults.
pub mod Keys
