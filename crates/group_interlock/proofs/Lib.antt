pub mod Stepping
pub mod RunningOn
