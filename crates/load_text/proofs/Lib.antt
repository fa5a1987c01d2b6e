pub mod TreeNumbers
pub mod Explaining
pub mod Accepting
pub mod Phases
pub mod OneFault
pub mod PerUnit
