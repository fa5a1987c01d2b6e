mod Ends
pub mod Pressed
pub mod Begun
pub mod Drawn
pub mod Followed
pub mod Watching
pub mod Slots
pub mod Busiest
pub mod Threaded
pub mod Scanned
pub mod Stretches
