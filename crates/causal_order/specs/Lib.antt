pub mod Over
pub mod Available
pub mod Laws
pub mod Passing
pub mod Kept
pub mod Started
