pub mod Outputs
pub mod Places
pub mod Notices
