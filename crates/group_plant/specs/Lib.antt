pub mod Cars
pub mod Plants
pub mod Safe
pub mod Switches
