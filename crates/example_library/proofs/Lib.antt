mod Fitting
mod Opens
mod Panels
pub mod Reaching
