pub mod Known
pub mod Digits
pub mod Filled
pub mod Seen
pub mod Laws
pub mod Owned
mod LabelTable
pub mod Stored
