-- The laws of destinations.
pub mod Carriers
pub mod Owners
pub mod Destinations
