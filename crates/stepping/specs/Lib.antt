pub mod Choice
pub mod Steps
pub mod Laws
