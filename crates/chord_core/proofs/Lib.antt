pub mod Settling
pub mod Nearer
pub mod Answered
