pub mod NodesState
pub mod Joining
pub mod Looking
pub mod Puts
pub mod Spoiling
pub mod Upkeep
pub mod Parts
