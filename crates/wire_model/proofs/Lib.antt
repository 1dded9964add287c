pub mod OneReading
pub mod Fronts
pub mod Dependent
pub mod Arrays
pub mod Made
pub mod PartByPart
