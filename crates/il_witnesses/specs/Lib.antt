pub mod Trees
pub mod EveryConstruct
pub mod Cases
pub mod Straight
