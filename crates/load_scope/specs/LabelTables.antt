-- The places of labels, as a table (own rules).
use Rattle.std.specs.Prelude.{◌≡◌, ℕ, if◌then◌else◌, List, map, Some}
use Rattle.il_syntax.specs.declared.tree.Named.{Named}
use Rattle.il_syntax.specs.declared.tree.Step.{Step}
use Rattle.il_syntax.specs.declared.tree.Body.{Body}
use Rattle.il_statics.specs.Names.{Spelling, is_one_of}
use Rattle.il_statics.specs.Types.{label_from, label_place}
use Rattle.base_maps.specs.NameMap.{NameMap, get}

-- a table that has these names for a place, and what it had of others
abbrev pub AreWith : NameMap ℕ → List Named → ℕ → NameMap ℕ → Type 0
AreWith old names at new = (name : Spelling) → get new name ≡ (if is_one_of (map (λ l. l.name) names) name then Some at else get old name)

-- a table of the labels from a place on
abbrev pub AreFrom : NameMap ℕ → ℕ → List Step → List Spelling → Type 0
AreFrom table at steps last = (name : Spelling) → get table name ≡ label_from at steps last name

-- a table of the labels of a body; the first with a name counts
abbrev pub HasLabels : Body → NameMap ℕ → Type 0
HasLabels body table = (name : Spelling) → get table name ≡ label_place body name
