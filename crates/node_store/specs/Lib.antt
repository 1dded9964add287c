pub mod Stores
pub mod Numbers
