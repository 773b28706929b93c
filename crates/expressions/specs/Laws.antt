-- The laws of expressions.
pub mod Operands
pub mod Expressions
pub mod Accesses
