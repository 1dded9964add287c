pub mod Signed
pub mod Sealed
