pub mod Opened
pub mod Hands
pub mod Lines
pub mod Joined
pub mod Snapped
mod StayingRing
mod OtherLines
mod Taking
