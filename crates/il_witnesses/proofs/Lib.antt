mod Tokens
mod Spelled
mod Straight
pub mod DeclarationRows
pub mod TypeRows
pub mod FirstRows
