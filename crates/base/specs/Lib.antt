pub mod Bytes
pub mod Letters
pub mod Price
pub mod Questions
pub mod Range
