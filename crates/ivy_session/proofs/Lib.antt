mod Refreshes
mod AskSteps
mod Bringing
mod Nobody
mod Taken
mod Available
mod Hears
mod Failing
mod Advancing
mod Calls
mod Puts
mod Begins
mod Turns
mod InPlace
mod Refreshed
mod TurnsInPlace
mod Falling
mod Cutting
pub mod Staying
pub mod Ended
pub mod Hearing
pub mod Wanted
pub mod Called
pub mod Driven
pub mod Ordered
pub mod Putting
pub mod Steps
pub mod Unasked
mod Admitted
mod Callers
mod GoodCalls
mod Readings
