pub mod Days
pub mod Promises
