pub mod Holds
pub mod Words
pub mod Kept
pub mod Laws
