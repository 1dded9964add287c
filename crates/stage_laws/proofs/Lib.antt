mod Told
pub mod Lines
pub mod Replies
pub mod FullRuns
mod Signing
pub mod Stands
pub mod Promised
pub mod Statuses
mod Outputs
mod Given
pub mod Misled
