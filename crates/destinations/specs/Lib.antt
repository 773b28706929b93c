pub mod Carriers
pub mod Owners
pub mod Destinations
pub mod Laws
