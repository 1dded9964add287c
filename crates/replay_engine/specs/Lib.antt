pub mod Places
pub mod Replays
pub mod States
pub mod Engines
pub mod Laws
pub mod Rows
