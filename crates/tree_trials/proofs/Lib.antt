pub mod Bodies
pub mod NewRecords
