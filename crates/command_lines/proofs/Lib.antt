mod DigitLemmas
mod EachLemmas
mod Examples
mod FillLemmas
pub mod HexLaws
pub mod LineLemmas
pub mod NumberLaws
mod OwnerLemmas
mod ReadLemmas
pub mod WordLaws
