pub mod Views
pub mod Loop
