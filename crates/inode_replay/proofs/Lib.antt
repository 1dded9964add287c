pub mod Applied
mod Examples
pub mod Places
mod FoundPieces
mod Onward
mod Rows
mod Changes
mod FoundRanges
mod MarkPlaces
mod Steps
