-- What the open scan of a task saw of the call slots (own rules).
use Rattle.std.specs.Prelude.{ℕ, Bool, true, false, List, take, Option, Some, None}

-- the first so many tickets, if a scan is open
abbrev pub seen_by : Bool → ℕ → List (Option ℕ) → Option (List (Option ℕ))
seen_by false count seen = None
seen_by true count seen = Some (take count seen)
