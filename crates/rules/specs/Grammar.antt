pub mod Trees
pub mod Verdict
pub mod Precedence
