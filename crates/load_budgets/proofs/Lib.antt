pub mod Stacked
pub mod Agreeing
pub mod Following
pub mod Exact
pub mod Steady
