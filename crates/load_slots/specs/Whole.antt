-- The code of the units of a configuration, and first rows (own rules).
use Rattle.std.specs.Prelude.{◌≡◌, ℕ, suc, ◌==◌, ◌^◌, Bool, true, false, not, ◌&&◌, if◌then◌else◌, bytes_eq, List, [], ◌∷◌, map, Option, None, pos, neg_ℤ, ◌+ℤ◌, int_le}
use Rattle.il_syntax.specs.declared.tree.Form.{Form}
use Rattle.il_syntax.specs.declared.tree.Form.TheVariants.{Scalar as ScalarForm, Array as ArrayForm, Block as BlockForm}
use Rattle.il_syntax.specs.declared.tree.Literal.{Literal}
use Rattle.il_syntax.specs.declared.tree.Unit.{Unit as ProgramUnit}
use Rattle.il_syntax.specs.declared.tree.Config.{Config}
use Rattle.il_semantics.specs.declared.value.Value.{Value}
use Rattle.base_maps.specs.NameMap.{Text}
use Rattle.il_semantics.specs.Meaning.{Entity, initial_value, width}
use Rattle.load_slots.specs.declared.flat.Cell.{Cell}
use Rattle.load_slots.specs.declared.flat.UnitCode.{UnitCode}
use Rattle.load_slots.specs.Layout.{Rows, rows, number_part, flag_part, HasKind}
use Rattle.load_slots.specs.Flattened.{Names, flat_code, function_by}

-- the number of the first unit of a name
abbrev pub number_in : List ProgramUnit → Text → ℕ
number_in [] name = 0
number_in (u ∷ us) name = if bytes_eq u.name.name name then 0 else suc (number_in us name)

-- the flat code of a unit
abbrev pub unit_code : (Text → Names) → Config → ProgramUnit → UnitCode
unit_code names c u = record { name = u.name.name; code = flat_code (names u.name.name) c u u.body.steps; function = function_by (names u.name.name) c u u.kind }

-- FIRST ROWS

-- the rows of values
abbrev pub first_rows : List (Text × Value) → Rows
first_rows vs = rows (map (λ v. number_part v.1) vs) (map (λ v. flag_part v.1) vs)

-- the initial values of declarations are of the kinds of their types
abbrev pub IsInitial : Option Literal → Form → Type 0
IsInitial initial (ScalarForm s) = HasKind s (initial_value s initial)
IsInitial initial (ArrayForm bounds element) = HasKind element (initial_value element None)
IsInitial initial (BlockForm block) = Unit {0}

abbrev pub AreInitial : List Entity → Type 0
AreInitial [] = Unit {0}
AreInitial (e ∷ es) = IsInitial e.initial e.form × AreInitial es

-- values for cells, one for each
abbrev pub AreOf : List Cell → List (Text × Value) → Type 0
AreOf [] [] = Unit {0}
AreOf (x ∷ xs) (v ∷ vs) = (x.path ≡ v.0) × HasKind x.scalar v.1 × AreOf xs vs
AreOf _ _ = ⊥

-- TESTS

-- whether a name has no `.` and no `[`
abbrev pub is_plain : Text → Bool
is_plain [] = true
is_plain (b ∷ bs) = if b == 46 then false else if b == 91 then false else is_plain bs

-- whether no entity has the name
abbrev pub has_none : List Entity → Text → Bool
has_none [] name = true
has_none (e ∷ es) name = if bytes_eq e.name name then false else has_none es name

-- whether indices are of a size
abbrev pub has_short : Form → Bool
has_short (ArrayForm bounds element) = int_le (neg_ℤ (pos (2 ^ 62))) bounds.lower && int_le (bounds.lower +ℤ pos (width bounds)) (pos (2 ^ 62))
has_short _ = true

-- whether names are plain, not empty, and are once
abbrev pub are_named : List Entity → Bool
are_named [] = true
are_named (e ∷ es) = is_plain e.name && not (bytes_eq e.name []) && has_none es e.name && has_short e.form && are_named es
