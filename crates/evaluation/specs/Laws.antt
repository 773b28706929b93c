pub mod Gathering
pub mod Kinds
pub mod Standing
pub mod Stores
pub mod Tests
pub mod Transfers
