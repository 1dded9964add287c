pub mod Places
pub mod Puts
pub mod Levels
pub mod Listing
