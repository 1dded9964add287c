pub mod States
pub mod Behind
pub mod Steps
pub mod Parts
