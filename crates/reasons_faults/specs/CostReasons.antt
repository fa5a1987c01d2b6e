-- What is reported of a unit that costs too much: what its most expensive path runs (own rules).
use Rattle.std.specs.Prelude.{◌≡◌, ℕ, ◌+◌, ◌==◌, nat_lt, Bool, false, if◌then◌else◌, List, [], ◌∷◌, ◌++◌, map, flat_map, length, slice_get, Option, Some, None, codes, decimal}
use Rattle.il_syntax.specs.declared.tree.Body.{Body}
use Rattle.il_syntax.specs.declared.tree.Config.{Config}
use Rattle.il_syntax.specs.declared.tree.Place.{Place}
use Rattle.il_syntax.specs.declared.tree.Unit.{Unit as ProgramUnit}
use Rattle.il_statics.specs.Names.{Spelling}
use Rattle.load_budgets.specs.declared.table.Rest.{Rest}
use Rattle.load_budgets.specs.declared.ways.Way.{Way}
use Rattle.load_budgets.specs.declared.ways.Way.TheVariants.{Next, Jump, Return}
use Rattle.load_budgets.specs.Rounds.{unit_ways, rounds, line_at, followed}
use Rattle.load_budgets.specs.Tables.{number_at, rests_above}

-- WHAT A PATH RUNS

-- the costs of all units; none that is kept is greater than 1000001
unfoldable pub costs_of : Config → List ℕ
costs_of c = rounds 16 (map (unit_ways c) c.units)

-- the places of the path that a table of rests gives
abbrev pub places_by : List Rest → List ℕ
places_by rests = followed (length rests) rests (Some 0)

-- whether an instruction runs the own unit of a number
abbrev pub is_callee : ℕ → Option ℕ → Bool
is_callee number None = false
is_callee number (Some callee) = callee == number

abbrev pub is_run_by : ℕ → Option Way → Bool
is_run_by number (Some (Next callee)) = is_callee number callee
is_run_by number (Some (Jump condition to)) = false
is_run_by number (Some (Return condition)) = false
is_run_by number None = false

-- a place, if its instruction runs the unit of a number
abbrev pub run_at : ℕ → Option Way → ℕ → List ℕ
run_at number way place = if is_run_by number way then place ∷ [] else []

-- the places of a path that run the unit of a number
abbrev pub runs_of : List Way → List ℕ → ℕ → List ℕ
runs_of ways places number = flat_map (λ place. run_at number (slice_get ways place) place) places

-- LINES

-- `F costs 500`, or `F costs more than 1000000`
unfoldable pub costs_text : Spelling → ℕ → List ℕ
costs_text name cost = if nat_lt 1000000 cost then name ++ codes " costs more than 1000000" else name ++ (codes " costs " ++ decimal cost)

-- ` and is run once, in line 7`
unfoldable pub once_text : ℕ → List ℕ
once_text line = codes " and is run once, in line " ++ (decimal line ++ codes "\n")

-- ` and is run 2000 times, first in line 7`
unfoldable pub often_text : ℕ → ℕ → List ℕ
often_text times line = codes " and is run " ++ (decimal times ++ (codes " times, first in line " ++ (decimal line ++ codes "\n")))

-- `F costs 500 and is run 2000 times, first in line 7`, by the places that run it
abbrev pub run_line : Body → Spelling → ℕ → List ℕ → List ℕ
run_line body name cost [] = []
run_line body name cost (first ∷ []) = costs_text name cost ++ once_text (line_at body first)
run_line body name cost (first ∷ second ∷ places) = costs_text name cost ++ often_text (length (first ∷ second ∷ places)) (line_at body first)

-- of the units from a number on, those that a path runs
abbrev pub runs_lines : List ℕ → Body → List Way → List ℕ → ℕ → List ProgramUnit → List ℕ
runs_lines costs body ways places number [] = []
runs_lines costs body ways places number (u ∷ units) =
    run_line body u.name.name (number_at costs number) (runs_of ways places number) ++ runs_lines costs body ways places (number + 1) units

-- `instructions of C itself: 2003`
abbrev pub own_line : Spelling → ℕ → List ℕ
own_line name count = codes "instructions of " ++ (name ++ (codes " itself: " ++ (decimal count ++ codes "\n")))

-- what a path of a unit runs: each own unit, in the order of the text, and its own instructions
abbrev pub path_lines : List ProgramUnit → List ℕ → ProgramUnit → List Way → List ℕ → List ℕ
path_lines units costs u ways places = runs_lines costs u.body ways places 0 units ++ own_line u.name.name (length places)

-- the same of its most expensive path; where both ways on cost the same, it doesn't jump, return or call
abbrev pub most_lines : List ProgramUnit → List ℕ → ProgramUnit → List Way → List ℕ
most_lines units costs u ways = path_lines units costs u ways (places_by (rests_above costs 0 ways))

-- of the unit whose heading follows so many bytes
abbrev pub heading_lines : Config → ℕ → ProgramUnit → List ℕ
heading_lines c offset u = if u.place.offset == offset then most_lines c.units (costs_of c) u (unit_ways c u) else []

-- these lines are reported of a unit that costs too much
abbrev pub AreToldOfCosts : Config → Place → List ℕ → Type 0
AreToldOfCosts c place lines = lines ≡ flat_map (heading_lines c place.offset) c.units
