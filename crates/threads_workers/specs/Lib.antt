pub mod Panels
pub mod Ran
