pub mod Brought
pub mod Walks
pub mod Refreshing
pub mod Asking
pub mod Sessions
pub mod Replies
pub mod Executions
