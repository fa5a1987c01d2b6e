pub mod Answering
pub mod Running
pub mod Tracing
pub mod Telling
pub mod Beginning
