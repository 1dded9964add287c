pub mod Configurations
pub mod Laws
pub mod Representing
pub mod Ending
pub mod Within
pub mod MetState
