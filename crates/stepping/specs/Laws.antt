-- The laws of steps.
pub mod Choice
pub mod Steps
