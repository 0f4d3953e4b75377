pub mod ClosingUp
pub mod Rows
pub mod Sweeping
