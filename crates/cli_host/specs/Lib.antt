pub mod CallsFile
pub mod Files
pub mod Messages
pub mod Requests
pub mod Presses
pub mod Servings
pub mod Writes
