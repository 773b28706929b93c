-- The laws of what two members share.
pub mod Shared
