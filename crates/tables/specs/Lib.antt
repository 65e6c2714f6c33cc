pub mod Copies
pub mod Kept
