pub mod Ways
pub mod Tables
pub mod Rounds
pub mod Costs
pub mod Units
