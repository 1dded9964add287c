pub mod Listings
pub mod Lengths
pub mod Plans
pub mod Replies
pub mod PageEntries
