pub mod Actions
pub mod Evaluation
pub mod Control
pub mod Runs
pub mod Orders
