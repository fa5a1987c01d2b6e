pub mod Stacked
pub mod Sized
pub mod Agreeing
