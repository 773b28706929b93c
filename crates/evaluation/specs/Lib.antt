pub mod Standing
pub mod Stores
pub mod Gathering
pub mod Transfers
pub mod Tests
pub mod Laws
