pub mod Texts
pub mod ByText
pub mod Small
pub mod Put
