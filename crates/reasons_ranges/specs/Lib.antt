pub mod RangeReasons
