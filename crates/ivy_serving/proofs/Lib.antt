pub mod Standing
pub mod Passing
pub mod Counting
pub mod Linking
pub mod Refusing
pub mod Crossing
