pub mod NodeIds
pub mod Peers
pub mod Asked
