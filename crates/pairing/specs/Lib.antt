pub mod Unread
pub mod Outcome
pub mod Begun
pub mod Laws
