pub mod Ends
pub mod Queues
pub mod EndsLemmas
