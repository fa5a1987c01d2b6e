pub mod ChainReasons
pub mod CostReasons
pub mod NamesTold
pub mod Reasons
pub mod TreeReasons
pub mod TaskReasons
pub mod LimitReasons
