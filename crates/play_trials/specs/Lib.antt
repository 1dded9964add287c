pub mod InProgress
