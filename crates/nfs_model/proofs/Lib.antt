pub mod NameChecks
pub mod Objects
pub mod FirstCalls
pub mod OneArguments
pub mod Examples
pub mod OneReplies
