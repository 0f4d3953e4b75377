pub mod Applied
pub mod Digits
pub mod Lines
