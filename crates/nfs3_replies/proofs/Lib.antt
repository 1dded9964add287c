mod Entries
mod ReadConstants
mod ReadAttributes
mod ReadForms
mod ReadPages
mod ReadMounts
pub mod ReadAnswers
mod Sizes
mod Written
