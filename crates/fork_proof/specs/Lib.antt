pub mod Forms
pub mod Reading
pub mod Places
pub mod Found
pub mod Trunks
pub mod Checks
pub mod Firsts
pub mod Laws
