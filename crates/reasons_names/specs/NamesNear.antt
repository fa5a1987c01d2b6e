-- Names that are near (own rules).
use Rattle.std.specs.Prelude.{◌≡◌, ◌≤◌, ℕ, zero, suc, nat_lt, nat_le, Bool, true, ◌&&◌, if◌then◌else◌, List, [], ◌∷◌, ◌++◌, length, Option, Some, None, IsTrue, Contains, codes, decimal}
use Rattle.std.specs.Str.{chars}
use Rattle.strsim.specs.Edits.{osa_table}
use Rattle.il_syntax.specs.declared.tree.Named.{Named}
use Rattle.il_statics.specs.Names.{Spelling}
use Rattle.reasons_names.specs.declared.names_near.Candidate.{Candidate}
use Rattle.reasons_names.specs.declared.names_near.Near.{Near}

-- a name that could have been meant, and the line where it is declared; a predeclared one has none
pub record Known : Type 0 where
  pub name : Spelling
  pub line : Option ℕ

-- a name that is near, and how many edits lead to it
pub record Nearest : Type 0 where
  pub known : Known
  pub distance : ℕ

-- a name and its line
abbrev pub known_name : Spelling → Option ℕ → Known
known_name name line = record { name = name; line = line }

-- a declared name
abbrev pub declared_name : Named → Known
declared_name n = known_name n.name (Some n.place.line)

-- a predeclared name
abbrev pub predeclared_name : Spelling → Known
predeclared_name name = known_name name None

-- what is shown of a candidate
abbrev pub candidate_shown : Candidate → Known
candidate_shown c = record { name = c.name.now; line = c.line }

-- what is shown of one that is near
abbrev pub near_shown : Near → Nearest
near_shown n = record { known = candidate_shown n.candidate; distance = n.distance }

-- how many edits lead from a name to another: insertions, deletions and replacements of a character, and exchanges of two neighbours
unfoldable pub distance : Spelling → Spelling → ℕ
distance from to = (osa_table (chars from) (chars to)).last_row (length (chars to))

-- whether a name is short enough to be compared
abbrev pub is_short : Spelling → Bool
is_short name = nat_le (length name) 32

-- whether so many edits are few for a name: at most two, and fewer than it has bytes
abbrev pub are_few : Spelling → ℕ → Bool
are_few name edits = nat_le edits 2 && nat_lt edits (length name)

-- whether so many edits are fewer than those to what was found
abbrev pub are_fewer : ℕ → Option Nearest → Bool
are_fewer edits None = true
are_fewer edits (Some n) = nat_lt edits n.distance

-- what is found after a name that so many edits lead to: that name, where they are few and fewer than before
abbrev pub after_edits : Spelling → Option Nearest → Known → ℕ → Option Nearest
after_edits name found known edits = if are_few name edits && are_fewer edits found then Some (record { known = known; distance = edits }) else found

-- what is found after one name more
unfoldable pub nearer : Spelling → Option Nearest → Known → Option Nearest
nearer name found known = if is_short name && is_short known.name then after_edits name found known (distance name known.name) else found

-- what is found after names, from what was found before
abbrev pub nearest_from : Spelling → Option Nearest → List Known → Option Nearest
nearest_from name found [] = found
nearest_from name found (k ∷ ks) = nearest_from name (nearer name found k) ks

-- of names the one that is nearest to a name, of equals the first; none where none is near
abbrev pub nearest : Spelling → List Known → Option Nearest
nearest name ks = nearest_from name None ks

-- whether a name is near to one: both are short, and few edits lead from one to the other
abbrev pub is_near : Spelling → Known → Bool
is_near name k = (is_short name && is_short k.name) && are_few name (distance name k.name)

-- a name of a list that is near to one, and no near one of the list is nearer
pub record IsNearest (name : Spelling) (known : List Known) (n : Nearest) : Type 0 where
  pub listed : Contains known n.known
  pub edits : n.distance ≡ distance name n.known.name
  pub near : IsTrue (is_near name n.known)
  pub nobody_nearer : (k : Known) → Contains known k → IsTrue (is_near name k) → n.distance ≤ distance name k.name

-- what is said of a declared name that so many edits lead to
abbrev pub declared_words : ℕ → List ℕ
declared_words zero = codes " is declared in line "
declared_words (suc edits) = codes " is near, declared in line "

-- what is missing for a declared name that no edit leads to: only a global is unknown under its own name
abbrev pub external_words : ℕ → List ℕ
external_words zero = codes ", and this unit has no VAR_EXTERNAL of it"
external_words (suc edits) = []

-- where a name is that so many edits lead to
abbrev pub nearness : ℕ → Option ℕ → List ℕ
nearness edits None = codes " is near"
nearness edits (Some line) = declared_words edits ++ (decimal line ++ external_words edits)

-- `; NEAR is near`, `; NEAR is near, declared in line N`, or `; NAME is declared in line N`
unfoldable pub hint_of : Nearest → List ℕ
hint_of n = codes "; " ++ (n.known.name ++ nearness n.distance n.known.line)

-- the same, where one is near
abbrev pub hint : Option Nearest → List ℕ
hint None = []
hint (Some n) = hint_of n

-- the end of a line that reports of a name: one that is near
unfoldable pub ending : Option Nearest → List ℕ
ending near = hint near ++ codes "\n"
