pub mod Found
pub mod Groups
pub mod Laws
pub mod Told
