pub mod Taking
pub mod Chains
pub mod Naming
pub mod Steps
