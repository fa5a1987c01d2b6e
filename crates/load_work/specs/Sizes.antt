-- How many variables a function has, as the code counts them (own rules).
use Rattle.std.specs.Prelude.{ℕ, ◌+◌, min, List, [], ◌∷◌, Option, Some, None, slice_get}
use Rattle.il_syntax.specs.declared.tree.Declaration.{Declaration}
use Rattle.il_syntax.specs.declared.tree.Form.{Form}
use Rattle.il_syntax.specs.declared.tree.Form.TheVariants.{Scalar as ScalarForm, Array as ArrayForm, Block as BlockForm}
use Rattle.il_syntax.specs.declared.tree.Named.{Named}
use Rattle.il_syntax.specs.declared.tree.Unit.{Unit as ProgramUnit}
use Rattle.il_syntax.specs.declared.tree.UnitKind.{UnitKind}
use Rattle.il_syntax.specs.declared.tree.UnitKind.TheVariants.{Function, FunctionBlock, Program}
use Rattle.il_semantics.specs.Meaning.{width}

-- a number, or the greatest of 64 bits
abbrev pub capped : ℕ → ℕ
capped n = min n 18446744073709551615

-- a number of a list; one that is not there is 0
abbrev pub number_or : Option ℕ → ℕ
number_or None = 0
number_or (Some n) = n

abbrev pub number_at : List ℕ → ℕ → ℕ
number_at numbers at = number_or (slice_get numbers at)

-- the variables of a type: a function has no instances (2.5.1)
abbrev pub form_size : Form → ℕ
form_size (ScalarForm scalar) = 1
form_size (ArrayForm bounds element) = capped (width bounds)
form_size (BlockForm name) = 0

-- so many for each name, added to a number
abbrev pub with_names : ℕ → ℕ → List Named → ℕ
with_names total size [] = total
with_names total size (n ∷ names) = with_names (capped (total + size)) size names

-- the variables of some declarations, added to a number
abbrev pub with_declared : ℕ → List Declaration → ℕ
with_declared total [] = total
with_declared total (d ∷ declarations) = with_declared (with_names total (form_size d.declared.form) d.names) declarations

-- with the result of a function (2.5.1)
abbrev pub with_result : UnitKind → ℕ → ℕ
with_result (Function scalar place) variables = capped (variables + 1)
with_result FunctionBlock variables = variables
with_result Program variables = variables

-- the variables of a unit
abbrev pub unit_size : ProgramUnit → ℕ
unit_size unit = with_result unit.kind (with_declared (with_declared (with_declared 0 unit.inputs) unit.outputs) unit.variables)
