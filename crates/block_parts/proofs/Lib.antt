pub mod Bytes
pub mod Blocks
pub mod OneParts
pub mod Constants
pub mod Optional
pub mod Misfits
pub mod Tested
