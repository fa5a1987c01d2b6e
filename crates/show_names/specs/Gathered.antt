-- Lists by name (own rules).
use Rattle.std.specs.Prelude.{◌≡◌, ℕ, ◌<◌, if◌then◌else◌, List, [], ◌++◌, length, Option, Some, None, slice_get, bytes_eq}
use Rattle.base_maps.specs.NameMap.{NameMap, get}
use Rattle.il_statics.specs.Names.{Spelling}
use Rattle.show_names.specs.declared.gathered.Gathered.{Gathered}

-- the items of a list, if there is one
abbrev pub items_of : {T : Type 0} → Option (List T) → List T
items_of None = []
items_of (Some list) = list

-- the list of a number, if there is one
abbrev pub numbered : {T : Type 0} → List (List T) → Option ℕ → List T
numbered lists None = []
numbered lists (Some number) = items_of (slice_get lists number)

-- numbers below a length, and a number of its own for each name
pub record AreNumbers (numbers : NameMap ℕ) (most : ℕ) : Type 0 where
  pub within : (name : Spelling) (number : ℕ) → get numbers name ≡ Some number → number < most
  pub apart : (name other : Spelling) (number : ℕ) → get numbers name ≡ Some number → get numbers other ≡ Some number → name ≡ other

-- the list of a name
unfoldable pub list_of : {T : Type 0} → Gathered T → Spelling → List T
list_of g name = numbered g.lists.items (get g.numbers name)

-- each name that has a list has one of its own
unfoldable pub IsSound : {T : Type 0} → Gathered T → Type 0
IsSound g = AreNumbers g.numbers (length g.lists.items)

-- what items that are pushed at one name add to the list of another
abbrev pub items_at : {T : Type 0} → Spelling → List T → Spelling → List T
items_at name items other = if bytes_eq name other then items else []

-- lists after items were pushed at a number
pub record IsPushed {T : Type 0} (lists : List (List T)) (number : ℕ) (items : List T) (after : List (List T)) : Type 0 where
  pub here : items_of (slice_get after number) ≡ items_of (slice_get lists number) ++ items
  pub others : (other : ℕ) → (other ≡ number → ⊥) → slice_get after other ≡ slice_get lists other
  pub count : length after ≡ length lists
