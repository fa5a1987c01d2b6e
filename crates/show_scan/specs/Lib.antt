pub mod Chosen
pub mod Stands
pub mod Lines
pub mod Shown
