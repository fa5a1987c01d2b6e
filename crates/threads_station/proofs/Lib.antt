pub mod Totals
pub mod AtPlant
pub mod Showing
pub mod Hands
pub mod Tasks
pub mod Cross
pub mod Meeting
