pub mod Spelling
pub mod Bodies
pub mod Whole
pub mod Links
pub mod Profile
pub mod Trace
