pub mod Beginning
pub mod Following
pub mod Ending
pub mod Keeping
