pub mod Bounds
pub mod Constants
pub mod Digits
pub mod Marks
pub mod Misspellings
pub mod Numbers
pub mod Spellings
pub mod Words
