pub mod Callers
pub mod Lexemes
pub mod Scans
pub mod Sound
pub mod Table
pub mod Writes
