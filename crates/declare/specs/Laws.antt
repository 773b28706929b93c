-- The laws of declarations.
pub mod Skipping
pub mod Faults
pub mod Earliest
pub mod Lawful
pub mod Small
