mod Ways
mod Sizes
pub mod Plans
mod Pages
mod Listings
pub mod Trees
mod PageSizes
mod Lengths
mod Fields
mod PageForms
mod AnswerForms
mod PlanForms
pub mod Counts
pub mod Replays
mod PageEntries
pub mod Faultless
