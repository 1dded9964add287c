mod Groups
mod LengthLemmas
mod Pieces
mod Forms
