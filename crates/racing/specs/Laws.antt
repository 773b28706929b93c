pub mod Alike
pub mod Bridge
pub mod Groups
pub mod Members
pub mod Told
