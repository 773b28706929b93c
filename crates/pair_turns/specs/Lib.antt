pub mod Taking
pub mod Turns
pub mod Views
pub mod Words
pub mod Laws
