pub mod Wholes
pub mod PartReading
pub mod ListReading
pub mod EntryReading
pub mod Ascending
pub mod InodeReading
pub mod RootReading
pub mod Appended
