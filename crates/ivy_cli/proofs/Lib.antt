pub mod NumberLemmas
pub mod WordLemmas
pub mod LoadLemmas
pub mod ForkLemmas
pub mod ForkLaws
pub mod RunLemmas
pub mod GeneratorLemmas
pub mod Ascending
pub mod FrontLemmas
mod Examples
mod ForkExamples
mod WordExamples
mod ReplyLemmas
