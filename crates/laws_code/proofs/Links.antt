pub mod Bodies
pub mod Held
pub mod Numbers
pub mod Placed
