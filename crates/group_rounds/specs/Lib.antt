pub mod Ahead
pub mod Along
pub mod Driven
pub mod Notices
pub mod Rounds
pub mod Shown
pub mod Observing
