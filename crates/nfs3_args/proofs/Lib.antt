mod Tags
mod PartsReading
mod AttributesReading
mod Procedures
mod Calls
