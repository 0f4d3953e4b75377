pub mod Asked
pub mod Days
pub mod Outcomes
pub mod Places
pub mod Sound
pub mod Steps
pub mod Sweeps
pub mod Turns
