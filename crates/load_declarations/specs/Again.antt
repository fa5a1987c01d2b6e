-- Names that are again, one list after another.
use Rattle.std.specs.Prelude.{◌⊎◌, ℕ, IsTrue, List, [], ◌∷◌, map, is_some}
use Rattle.il_syntax.specs.declared.tree.Named.{Named}
use Rattle.il_syntax.specs.declared.tree.Place.{Place}
use Rattle.base_maps.specs.NameMap.{NameMap, get, insert}
use Rattle.il_statics.specs.Names.{Spelling}
use Rattle.il_statics.specs.Least.{When}

-- the names that were seen
abbrev pub Seen : Type 0
Seen = NameMap (Unit {0})

-- what is seen after some names
abbrev pub with_names : Seen → List Spelling → Seen
with_names seen [] = seen
with_names seen (n ∷ ns) = with_names (insert seen n tt) ns

-- the items whose name was seen, or comes before in the list
abbrev pub AgainFrom : {A : Type 0} → (A → Spelling) → (A → Place) → ℕ → Seen → List A → ℕ → Place → Type 0
AgainFrom name_of place_of number seen [] other_number other_place = ⊥
AgainFrom name_of place_of number seen (x ∷ xs) other_number other_place =
    When (IsTrue (is_some (get seen (name_of x)))) number (place_of x) other_number other_place ⊎ AgainFrom name_of place_of number (insert seen (name_of x) tt) xs other_number other_place

-- the same of names where they are written
abbrev pub NamedAgain : Seen → List Named → ℕ → Place → Type 0
NamedAgain seen named = AgainFrom (λ n. n.name) (λ n. n.place) 20 seen named

-- what is seen after them
abbrev pub after : Seen → List Named → Seen
after seen named = with_names seen (map (λ n. n.name) named)
