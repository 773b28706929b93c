pub mod Spelled
pub mod Trees
pub mod Spelling
pub mod Laws
