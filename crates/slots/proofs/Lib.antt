pub mod Counts
pub mod Laws
pub mod Places
pub mod Positions
pub mod Strikes
