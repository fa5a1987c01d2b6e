pub mod Fronts
pub mod Listed
pub mod Refusing
pub mod Resting
pub mod Slots
pub mod Traces
