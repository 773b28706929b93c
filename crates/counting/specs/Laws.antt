-- The laws of counts and open brackets.
pub mod Holding
