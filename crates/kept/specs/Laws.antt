-- The laws of kept carriers.
pub mod Cases
