-- A map with numbers of short names as keys and one with texts, seen as one map from texts (own rules).
use Rattle.std.specs.Prelude.{◌≡◌, ℕ, if◌then◌else◌, List, [], ◌∷◌, ◌++◌, String, is_some}
use Rattle.std.specs.String.{string_bytes}
use Rattle.base_maps.specs.NameMap.{NameMap, Text, from_entries, get}
use Rattle.base_maps.specs.Numbers.{is_short, is_number, text_of}

-- the entries of short names
abbrev pub short_entries : {X : Type 0} → List (ℕ × X) → List (Text × X)
short_entries [] = []
short_entries (e ∷ es) = if is_number e.0 then (text_of e.0, e.1) ∷ short_entries es else short_entries es

-- those of others
abbrev pub long_entries : {A X : Type 0} → List (String A × X) → List (Text × X)
long_entries [] = []
long_entries (e ∷ es) = if is_short (string_bytes e.0) then long_entries es else (string_bytes e.0, e.1) ∷ long_entries es

-- the map of such entries
abbrev pub by_text : {A X : Type 0} → List (ℕ × X) → List (String A × X) → NameMap X
by_text es fs = from_entries (short_entries es ++ long_entries fs)

-- the one has an entry for a name exactly where the other has
abbrev pub HaveSameNames : {X : Type 0} → NameMap X → NameMap X → Type 0
HaveSameNames a b = (name : Text) → is_some (get a name) ≡ is_some (get b name)
