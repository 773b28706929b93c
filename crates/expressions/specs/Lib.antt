pub mod Expressions
pub mod Laws
