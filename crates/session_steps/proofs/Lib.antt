mod Calls
mod Asked
pub mod ConfigurationSteps
mod AskSteps
mod Read
mod TurnSteps
mod EndSteps
mod Configurations
mod Asks
mod Turns
mod Ends
mod Many
mod Begun
mod Lines
mod Parts
mod Arms
pub mod Members
pub mod Meeting
pub mod Ordered
