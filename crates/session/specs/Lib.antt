pub mod Applied
pub mod Kept
