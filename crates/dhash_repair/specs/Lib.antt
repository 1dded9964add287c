pub mod Repairs
pub mod Putting
pub mod Repairing
