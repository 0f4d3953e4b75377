pub mod Asked
pub mod Block
pub mod Entries
pub mod Faults
pub mod Forms
pub mod Read
pub mod Written
