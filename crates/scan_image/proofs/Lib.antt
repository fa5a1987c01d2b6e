pub mod Writing
pub mod Splicing
