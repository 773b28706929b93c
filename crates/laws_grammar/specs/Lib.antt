pub mod Answers
pub mod Cited
pub mod Grammar
