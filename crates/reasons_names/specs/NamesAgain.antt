-- What is reported of a name that is declared again (own rules).
use Rattle.std.specs.Prelude.{ℕ, if◌then◌else◌, List, [], ◌++◌, map, flat_map, Option, Some, None, option_map, option_and_then, codes, decimal}
use Rattle.il_syntax.specs.declared.tree.Config.{Config}
use Rattle.il_syntax.specs.declared.tree.Unit.{Unit as ProgramUnit}
use Rattle.il_syntax.specs.declared.tree.Named.{Named}
use Rattle.il_syntax.specs.declared.tree.Place.{Place}
use Rattle.il_statics.specs.Names.{Spelling, is_predeclared}
use Rattle.il_statics.specs.Declarations.{names_in, unit_names, labels_of}
use Rattle.reasons_names.specs.NameSpots.{headings, task_name, line_name, is_at, named_at, first_of}

-- LINES

-- `NAME is declared in line N already`
unfoldable pub again_line : Spelling → ℕ → List ℕ
again_line name line = name ++ (codes " is declared in line " ++ (decimal line ++ codes " already\n"))

-- `NAME is the unit of line N`
unfoldable pub unit_line : Spelling → ℕ → List ℕ
unit_line name line = name ++ (codes " is the unit of line " ++ (decimal line ++ codes "\n"))

-- `NAME is a predeclared name`
unfoldable pub predeclared_line : Spelling → List ℕ
predeclared_line name = name ++ codes " is a predeclared name\n"

-- EACH REASON

-- the line of another of the same name: of the first with it, which comes before a name that is elsewhere
abbrev pub earlier_line : List Named → Named → Option ℕ
earlier_line names n = option_and_then (λ m. if is_at m.place n.place then None else Some m.place.line) (first_of n.name names)

-- a line that a number ends, if there is one
abbrev pub with_line : (ℕ → List ℕ) → Option ℕ → List ℕ
with_line text None = []
with_line text (Some line) = text line

-- an earlier one of its name space has the name
abbrev pub again_text : List Named → Named → List ℕ
again_text names n = with_line (again_line n.name) (earlier_line names n)

-- a unit has the name, wherever that is
abbrev pub unit_text : List Named → Named → List ℕ
unit_text units n = with_line (unit_line n.name) (option_map (λ u. u.place.line) (first_of n.name units))

-- no text may declare the name
abbrev pub predeclared_text : Config → Named → List ℕ
predeclared_text config n = if is_predeclared config n.name then predeclared_line n.name else []

-- NAME SPACES

-- what is reported of a name, if there is one
abbrev pub told_of : (Named → List ℕ) → Option Named → List ℕ
told_of text None = []
told_of text (Some n) = text n

-- of a label, a task or a PROGRAM line among those of its list
abbrev pub other_text : Place → List Named → List ℕ
other_text place names = told_of (again_text names) (named_at place names)

-- of a unit among the units
abbrev pub heading_text : Config → Place → List Named → List ℕ
heading_text config place units = told_of (λ n. predeclared_text config n ++ again_text units n) (named_at place units)

-- of a unit's variable or a global among those of its list
abbrev pub variable_text : Config → List Named → Place → List Named → List ℕ
variable_text config units place names = told_of (λ n. predeclared_text config n ++ (unit_text units n ++ again_text names n)) (named_at place names)

-- of a unit's variables and labels
abbrev pub unit_names_text : Config → List Named → Place → ProgramUnit → List ℕ
unit_names_text config units place unit = variable_text config units place (unit_names unit) ++ other_text place (labels_of unit.body)

-- 20: what is reported of the name that is declared again at a place
unfoldable pub again_lines : Config → Place → List ℕ
again_lines config place =
    heading_text config place (headings config.units)
    ++ (flat_map (unit_names_text config (headings config.units) place) config.units
    ++ (variable_text config (headings config.units) place (names_in config.globals)
    ++ (other_text place (map task_name config.tasks) ++ other_text place (map line_name config.programs))))
