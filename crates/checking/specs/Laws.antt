-- The laws of checking.
pub mod Checked
