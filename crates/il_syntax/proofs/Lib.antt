mod Rows
pub mod TextLemmas
pub mod Places
