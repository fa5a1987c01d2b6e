pub mod Heads
pub mod Resuming
pub mod Keeping
pub mod Ending
pub mod Between
