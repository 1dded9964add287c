pub mod Left
pub mod Histories
pub mod Turning
pub mod Passing
mod Behind
mod Held
pub mod Folds
