pub mod Gates
pub mod Kinds
pub mod Meaning
pub mod Messages
pub mod Sharing
pub mod Layers
