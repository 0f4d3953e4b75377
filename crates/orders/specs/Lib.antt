pub mod Kind
pub mod Limits
pub mod Ranking
pub mod Own
pub mod Names
