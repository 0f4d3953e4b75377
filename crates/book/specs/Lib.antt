pub mod Asked
pub mod Called
pub mod Closed
pub mod Holding
pub mod Run
pub mod Swept
pub mod View
