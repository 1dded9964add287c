pub mod Closed
pub mod Whole
pub mod One
pub mod Verified
pub mod Some
pub mod Reading
pub mod Taking
pub mod Laws
