pub mod NextLines
pub mod Cars
pub mod Slots
pub mod Hex
pub mod Words
pub mod Walks
pub mod Denied
pub mod Placing
pub mod Puts
pub mod Steps
pub mod Readings
pub mod Again
pub mod Within
pub mod Beginning
mod Rows
