pub mod Digits
pub mod Readings
pub mod Unique
