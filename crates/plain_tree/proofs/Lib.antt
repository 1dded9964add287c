pub mod Put
pub mod Climbed
pub mod Kept
