pub mod Places
pub mod Puts
pub mod Cuts
pub mod Waiting
pub mod Tops
pub mod Listings
pub mod InOrder
pub mod Rests
