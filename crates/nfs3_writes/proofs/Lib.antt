pub mod Passing
pub mod Emptiness
