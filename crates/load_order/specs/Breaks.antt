-- What breaks the rules of order and of slots, as the code looks for it.
use Rattle.std.specs.Prelude.{◌≡◌, ℕ, ◌+◌, suc, Bool, true, nat_lt, List, length, Option, None, Some}
use Rattle.il_syntax.specs.declared.tree.Config.{Config}
use Rattle.il_syntax.specs.declared.tree.Place.{Place}
use Rattle.il_statics.specs.Least.{NumberedFault, fault_at, is_before, When, Either, Below}
use Rattle.load_order.specs.Related.{holds, closed}
use Rattle.load_order.specs.Used.{uses}
use Rattle.load_order.specs.Chained.{is_long}
use Rattle.load_order.specs.Counted.{with_declared, counts, is_over}
use Rattle.il_statics.specs.declared.limits.TheConstants.{MOST_TASK_SLOTS}

-- the relation of the units that reach which
abbrev pub reached : Config → List (List Bool)
reached config = closed (length config.units) (uses config true) (length config.units)

-- units below an index that reach themselves
abbrev pub RecursionsBreak : Config → List (List Bool) → ℕ → ℕ → Place → Type 0
RecursionsBreak config reached = Below (λ at unit. When (holds reached at at ≡ true) 36 unit.place) config.units

-- units below an index with a chain that is too long
abbrev pub ChainsBreak : Config → List (List Bool) → ℕ → ℕ → Place → Type 0
ChainsBreak config uses = Below (λ at unit. When (is_long (length config.units) uses at ≡ true) 46 unit.place) config.units

-- all of units
abbrev pub UnitsBreak : Config → List (List Bool) → List (List Bool) → ℕ → Place → Type 0
UnitsBreak config uses reached = Either (RecursionsBreak config reached (length config.units)) (ChainsBreak config uses (length config.units))

-- whether a chain that is too long, from a unit at a place, would be named before a fault
abbrev pub precedes : Place → Option NumberedFault → Bool
precedes place None = true
precedes place (Some f) = is_before (fault_at 46 place) f

-- PROGRAM lines below an index with too many slots
abbrev pub LinesBreak : Config → List (List Bool) → List ℕ → ℕ → ℕ → Place → Type 0
LinesBreak config reached counted = Below (λ at line. When (is_over config reached counted line ≡ true) 12 line.place) config.programs

-- globals with so many slots, where these are too many
pub record GlobalsBreak (config : Config) (total : ℕ) (number : ℕ) (place : Place) : Type 0 where
  pub stands : config.globals_place ≡ Some place
  pub over : nat_lt MOST_TASK_SLOTS total ≡ true
  pub is : number ≡ 12

-- all of slots
abbrev pub SlotsBreak : Config → ℕ → Place → Type 0
SlotsBreak config = Either (LinesBreak config (reached config) (counts config (suc (length config.units + 1))) (length config.programs)) (GlobalsBreak config (with_declared config (length config.units + 1) (counts config (length config.units + 1)) 0 config.globals))

-- all of order
abbrev pub AllUnitsBreak : Config → ℕ → Place → Type 0
AllUnitsBreak config = UnitsBreak config (uses config true) (reached config)
