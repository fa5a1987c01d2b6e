pub mod Codes
pub mod Laws
pub mod Beside
