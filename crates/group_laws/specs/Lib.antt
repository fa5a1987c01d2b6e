pub mod Tasks
pub mod Scans
pub mod Seeing
pub mod Holding
pub mod Runs
pub mod Accepted
pub mod Histories
