pub mod Turn
pub mod Known
pub mod Basis
pub mod Candidates
pub mod Work
