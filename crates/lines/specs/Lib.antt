pub mod Appended
pub mod Digits
pub mod Endings
pub mod Said
pub mod Answers
pub mod Laws
