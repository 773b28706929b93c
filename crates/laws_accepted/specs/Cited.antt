pub mod Constants
pub mod Declared
pub mod Destinations
pub mod Lengths
