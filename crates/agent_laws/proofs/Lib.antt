pub mod Floors
pub mod Sets
pub mod Plans
