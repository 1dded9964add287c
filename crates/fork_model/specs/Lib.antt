pub mod Bytes
pub mod Before
pub mod Finding
