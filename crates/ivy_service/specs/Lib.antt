pub mod Opening
pub mod Service
