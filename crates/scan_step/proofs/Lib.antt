pub mod Applied
pub mod Numbers
