pub mod Checks
pub mod Frames
