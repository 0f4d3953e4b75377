pub mod Closing
pub mod Midpoint
pub mod Priorities
pub mod Reduction
