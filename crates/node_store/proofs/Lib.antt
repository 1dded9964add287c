mod Examples
pub mod Held
pub mod Maps
pub mod Puts
pub mod Sums
mod Numbers
