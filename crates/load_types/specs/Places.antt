-- The table at the entry of a body (own rules).
use Rattle.std.specs.Prelude.{◌≡◌, ℕ, ◌+◌, ◌<◌, List, None, length}
use Rattle.load_types.specs.declared.arrival.Arrival.{Arrival}
use Rattle.load_types.specs.declared.arrival.Arrival.TheVariants.{Unreached, Reached}
use Rattle.load_types.specs.Arrivals.{held}

-- the entry is reached with no result, and nothing leads elsewhere yet
pub record IsFresh (count : ℕ) (table : List Arrival) : Type 0 where
  pub long : length table ≡ count + 1
  pub entry : held table 0 ≡ Reached None
  pub others : (place : ℕ) → 0 < place → held table place ≡ Unreached
