pub mod Fault
pub mod Declared
pub mod Bodies
pub mod Whole
