pub mod Refusals
pub mod Calls
pub mod Known
pub mod UserCalls
pub mod HouseCalls
pub mod Delivery
pub mod Reports
