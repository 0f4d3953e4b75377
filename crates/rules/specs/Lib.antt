pub mod Calls
pub mod Day
pub mod Faults
pub mod Pairs
pub mod Promises
pub mod Questions
pub mod Sweep
