pub mod OneView
pub mod Ascending
pub mod Heads
pub mod KeyLists
pub mod Refusals
pub mod Examples
