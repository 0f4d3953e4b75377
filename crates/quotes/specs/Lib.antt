pub mod Answer
pub mod Board
pub mod Faults
pub mod Message
pub mod Receiving
pub mod Ticks
