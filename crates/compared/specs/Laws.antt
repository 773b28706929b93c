-- The laws of a list that is compared with a run.
pub mod Laid
pub mod Traced
