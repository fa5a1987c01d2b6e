pub mod ChainUses
pub mod EachTold
pub mod NothingSpelled
pub mod PathRuns
pub mod CarWords
