pub mod WorldState
pub mod Ends
pub mod Limits
