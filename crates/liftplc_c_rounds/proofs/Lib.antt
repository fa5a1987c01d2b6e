pub mod HeldValues
pub mod Values
