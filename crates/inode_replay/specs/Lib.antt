pub mod Attributes
pub mod Bodies
pub mod Contents
pub mod Kept
pub mod Numbers
pub mod Pieces
pub mod Ends
pub mod Marks
