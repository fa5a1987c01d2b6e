pub mod Outcomes
pub mod Working
