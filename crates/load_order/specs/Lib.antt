pub mod Bounded
pub mod Breaks
pub mod Chained
pub mod Counted
pub mod Instances
pub mod OrderFaults
pub mod Related
pub mod Used
