pub mod Machine
pub mod Holding
pub mod Walking
pub mod Laws
