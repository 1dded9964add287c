pub mod Acts
pub mod Takers
pub mod Driving
pub mod Serving
pub mod Links
pub mod Alone
