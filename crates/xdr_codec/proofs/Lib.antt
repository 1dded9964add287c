pub mod Lengths
pub mod Zeros
pub mod Whole
