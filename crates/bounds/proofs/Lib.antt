pub mod Closing
pub mod Owed
pub mod Falling
pub mod Counted
pub mod Reaching
pub mod Longest
pub mod WalkLaws
pub mod Answers
