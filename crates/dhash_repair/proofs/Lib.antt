pub mod Asks
pub mod Driven
pub mod Putting
pub mod Repairing
