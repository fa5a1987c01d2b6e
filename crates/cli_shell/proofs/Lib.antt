pub mod Cutting
pub mod Ending
pub mod Asking
pub mod AlsoTold
