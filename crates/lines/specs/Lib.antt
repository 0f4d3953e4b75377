pub mod Faults
pub mod Lines
pub mod Numbers
pub mod Output
