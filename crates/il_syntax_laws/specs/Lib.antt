pub mod One
pub mod Alike
pub mod GoesOn
pub mod Places
