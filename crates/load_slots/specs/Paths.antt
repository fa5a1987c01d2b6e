-- Which slot a path has (own rules).
use Rattle.std.specs.Prelude.{◌≡◌, ℕ, suc, bytes_eq, if◌then◌else◌, List, [], ◌∷◌, slice_get, Option, Some, None, option_map}
use Rattle.base_maps.specs.NameMap.{Text}
use Rattle.load_slots.specs.declared.flat.Cell.{Cell}

-- the slot of a path
abbrev pub slot_at : List Cell → Text → Option ℕ
slot_at [] path = None
slot_at (c ∷ cs) path = if bytes_eq c.path path then Some 0 else option_map suc (slot_at cs path)

-- the path of a slot
abbrev pub path_at : List Cell → ℕ → Option Text
path_at cells slot = option_map (λ c. c.path) (slice_get cells slot)

-- Each path has one slot, and each slot one path.
pub record ArePaired (cells : List Cell) : Type 0 where
  pub named : (path : Text) (slot : ℕ) → slot_at cells path ≡ Some slot → path_at cells slot ≡ Some path
  pub placed : (path : Text) (slot : ℕ) → path_at cells slot ≡ Some path → slot_at cells path ≡ Some slot
