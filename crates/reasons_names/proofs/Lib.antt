pub mod Known
pub mod Meanings
pub mod Nearest
pub mod Pieces
pub mod Spots
pub mod TypeTexts
