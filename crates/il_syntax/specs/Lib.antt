pub mod ElementaryTypes
pub mod Text
pub mod Words
pub mod Grammar
pub mod Kept
