mod TreeSent
mod EngineSent
pub mod Crossing
