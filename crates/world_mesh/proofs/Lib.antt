pub mod Entries
pub mod Fates
