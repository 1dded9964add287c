pub mod ReplyHead
pub mod Parts
pub mod Callers
pub mod Frames
pub mod FrameReading
pub mod Streams
pub mod FrameLaws
