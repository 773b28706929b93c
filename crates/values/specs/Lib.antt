pub mod Operands
pub mod Operators
pub mod Laws
