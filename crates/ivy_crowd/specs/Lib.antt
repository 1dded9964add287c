pub mod Requests
pub mod Sessions
pub mod Crowds
pub mod Jobs
