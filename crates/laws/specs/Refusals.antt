pub mod Faults
pub mod Numbered
pub mod Scanned
