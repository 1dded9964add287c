pub mod FirstRun
pub mod Plans
pub mod Rows
pub mod Kept
pub mod Keeps
pub mod Known
