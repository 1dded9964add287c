pub mod BlockLemmas
pub mod LaneLemmas
mod Maj
