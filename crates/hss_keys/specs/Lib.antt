pub mod Hss
pub mod Reading
pub mod Checks
pub mod Signer
pub mod Saved
pub mod SavedReading
pub mod Uses
pub mod ToldApart
