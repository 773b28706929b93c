pub mod Written
pub mod Made
pub mod Expressions
pub mod Selectors
