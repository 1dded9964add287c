pub mod Gated
pub mod Worlds
