pub mod RangeUnits
