-- The laws of items: patterns and ranges, and how they stand in the token table.
pub mod Patterns
pub mod Reaches
pub mod Tokens
pub mod Lists
