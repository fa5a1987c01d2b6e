pub mod ArgumentReasons
pub mod InitialReasons
pub mod KindReasons
pub mod RangeWords
pub mod ResultReasons
pub mod TypeReasons
pub mod TypeWords
pub mod WrittenReasons
