pub mod Contents
pub mod Changing
pub mod View
pub mod Tied
pub mod Applicable
pub mod Bases
pub mod Laws
