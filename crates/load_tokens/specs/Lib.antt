pub mod Pieces
pub mod Refused
pub mod LexicalErrors
pub mod Lanes
pub mod Durations
