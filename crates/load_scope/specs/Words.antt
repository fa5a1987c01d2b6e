-- Words, and tables of words.
use Rattle.std.specs.Prelude.{Bool, if◌then◌else◌, List, [], ◌∷◌, Option, Some, None, bytes_eq}
use Rattle.il_statics.specs.Names.{Spelling}

-- whether a name is this word; the words stay closed unless a proof opens this
unfoldable pub is_name : Spelling → Spelling → Bool
is_name word name = bytes_eq word name

-- the entry of a table under a name, its words closed
abbrev pub entry_among : {A : Type 0} → List (Spelling × A) → Spelling → Option A
entry_among [] name = None
entry_among (e ∷ es) name = if is_name e.0 name then Some e.1 else entry_among es name
