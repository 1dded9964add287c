pub mod Room
pub mod Sizes
pub mod Writable
pub mod Reading
pub mod ReadParts
