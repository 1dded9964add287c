pub mod Beginnings
pub mod Views
pub mod Steps
pub mod Ends
pub mod Meets
pub mod Gathering
pub mod Same
