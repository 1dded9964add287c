pub mod Levels
pub mod PlainKeys
pub mod Acceptance
pub mod Signing
pub mod Saving
pub mod Leaves
pub mod Uses
