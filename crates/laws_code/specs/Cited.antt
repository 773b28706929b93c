pub mod Bodies
pub mod Code
pub mod Numbers
pub mod Placed
