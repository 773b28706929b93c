pub mod Items
pub mod Stands
pub mod Reaches
pub mod Laws
