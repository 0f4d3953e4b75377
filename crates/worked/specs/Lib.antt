pub mod Examples
pub mod LawfulDay
