pub mod Lines
pub mod Logs
pub mod Presses
pub mod Summaries
