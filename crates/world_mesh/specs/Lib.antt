pub mod Answers
pub mod Trails
