pub mod Seen
pub mod Running
pub mod Groups
pub mod Worlds
pub mod Kept
pub mod Setting
