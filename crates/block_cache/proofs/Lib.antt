pub mod Entries
mod Examples
pub mod Pairs
