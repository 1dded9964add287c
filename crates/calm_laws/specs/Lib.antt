pub mod Calm
pub mod Put
pub mod Completeness
pub mod Takes
pub mod CalmLines
pub mod Laws
pub mod Readable
