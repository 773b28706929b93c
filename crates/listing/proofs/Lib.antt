pub mod Arrays
pub mod Spelling
pub mod Storage
pub mod Tables
