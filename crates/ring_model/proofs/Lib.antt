pub mod Lists
pub mod Arcs
pub mod Members
pub mod Owners
pub mod Routes
pub mod Lookups
pub mod Passes
pub mod Starts
pub mod Hops
pub mod Rounds
pub mod Fingers
pub mod Settled
pub mod Blocks
pub mod Gets
pub mod Ties
mod Examples
