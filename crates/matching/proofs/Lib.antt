pub mod ClosingUp
mod Filled
mod FirstPair
mod Going
mod Orders
pub mod Places
mod Rows
mod Shorter
