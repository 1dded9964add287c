pub mod Bringing
pub mod Starting
pub mod Loading
pub mod Once
pub mod Going
pub mod Laws
