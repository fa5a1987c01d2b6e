pub mod Objects
pub mod Forms
