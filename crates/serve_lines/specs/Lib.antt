pub mod Saying
pub mod Serving
pub mod Answers
pub mod Coming
pub mod Between
pub mod Going
pub mod Waiting
