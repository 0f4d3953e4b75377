pub mod Decided
pub mod LawfulDay
pub mod WorkedExamples
