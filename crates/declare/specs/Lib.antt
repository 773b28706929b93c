pub mod Skipping
pub mod Finding
pub mod Faults
pub mod Listed
pub mod Told
pub mod Laws
