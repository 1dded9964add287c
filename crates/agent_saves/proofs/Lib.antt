pub mod PostReading
pub mod ViewReading
pub mod PartReading
pub mod OwnLog
pub mod Agents
pub mod HssSaves
