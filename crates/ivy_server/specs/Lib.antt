pub mod Passes
pub mod Served
pub mod Laws
pub mod Sessions
pub mod Streams
