pub mod ExpectedKinds
pub mod TokenReasons
pub mod LeftOut
pub mod Instead
pub mod Fractions
pub mod Parentheses
