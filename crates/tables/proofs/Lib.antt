pub mod Equal
pub mod Listing
