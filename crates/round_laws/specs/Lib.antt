pub mod RingOf
pub mod Holding
pub mod Laws
