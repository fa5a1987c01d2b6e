pub mod ArgumentTexts
pub mod ResultPasses
pub mod TypeInputs
pub mod WantedLaws
