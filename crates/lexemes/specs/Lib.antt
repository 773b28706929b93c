pub mod Codes
pub mod Digits
pub mod Laws
pub mod Misspellings
pub mod Lexemes
pub mod Numbers
