pub mod Pieces
pub mod Refusals
