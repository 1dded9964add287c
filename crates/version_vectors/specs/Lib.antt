pub mod Entries
pub mod Vectors
pub mod Reading
pub mod Ranks
pub mod Places
