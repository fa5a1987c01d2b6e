-- The names that bodies store into (own rules).
use Rattle.std.specs.Prelude.{◌≡◌, Bool, ◌||◌, is_some, List, flat_map}
use Rattle.il_syntax.specs.declared.tree.Step.{Step}
use Rattle.il_statics.specs.Names.{Spelling, is_one_of}
use Rattle.il_statics.specs.Types.{stored_names}
use Rattle.base_maps.specs.NameMap.{NameMap, get}

-- whether instructions store into a variable of a name
abbrev pub is_stored : List Step → Spelling → Bool
is_stored steps name = is_one_of (flat_map (λ s. stored_names s.instruction) steps) name

-- a table has the names that they store into
abbrev pub HasStored : List Step → NameMap Bool → Type 0
HasStored steps stored = (name : Spelling) → is_some (get stored name) ≡ is_stored steps name

-- one has, beside what another has, just these names
abbrev pub AddsNames : NameMap Bool → NameMap Bool → List Spelling → Type 0
AddsNames old new added = (q : Spelling) → is_some (get new q) ≡ (is_some (get old q) || is_one_of added q)
