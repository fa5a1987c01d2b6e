pub mod Loading
pub mod UnitFaults
