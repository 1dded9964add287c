pub mod Parts
pub mod Reading
pub mod Writable
pub mod Room
