pub mod Sizes
pub mod Weights
pub mod Table
pub mod Rounds
