mod Rows
mod WorldRows
pub mod Interlock
pub mod Refreshed
pub mod Laws
pub mod Bits
pub mod Running
pub mod Hands
