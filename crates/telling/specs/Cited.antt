pub mod Cells
pub mod Grouped
pub mod Passing
pub mod Tracing
