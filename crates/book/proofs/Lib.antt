pub mod Days
pub mod Made
mod Running
