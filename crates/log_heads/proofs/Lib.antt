pub mod SignedHeads
pub mod SealedHeads
