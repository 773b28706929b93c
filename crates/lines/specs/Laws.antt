-- The laws of lines.
pub mod Appended
pub mod Said
