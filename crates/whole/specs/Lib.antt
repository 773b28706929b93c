pub mod GroupKeys
pub mod Written
pub mod WalkKeys
pub mod Laws
