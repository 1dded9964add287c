pub mod ReadChecks
pub mod Measures
pub mod Places
pub mod Names
