mod Parents
pub mod Runs
pub mod Replies
