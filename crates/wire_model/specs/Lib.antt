pub mod Xdr
pub mod Rpc
pub mod OneReading
pub mod Parts
pub mod Laws
