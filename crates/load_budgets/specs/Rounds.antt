-- Costs of units round by round, and the places of a path (own rules).
use Rattle.std.specs.Prelude.{ℕ, zero, suc, List, [], ◌∷◌, map, slice_get, Option, Some, None}
use Rattle.il_syntax.specs.declared.tree.Config.{Config}
use Rattle.il_syntax.specs.declared.tree.Unit.{Unit as ProgramUnit}
use Rattle.il_syntax.specs.declared.tree.Body.{Body}
use Rattle.il_syntax.specs.declared.tree.Step.{Step}
use Rattle.load_budgets.specs.declared.ways.Way.{Way}
use Rattle.load_budgets.specs.declared.table.Rest.{Rest}
use Rattle.load_budgets.specs.Ways.{way_of}
use Rattle.load_budgets.specs.Tables.{rest_up, rests_above}

-- the ways of a unit's instructions
abbrev pub unit_ways : Config → ProgramUnit → List Way
unit_ways c u = map (λ s. way_of c u s.instruction) u.body.steps

-- the cost of a unit, by those of the units that it calls
abbrev pub unit_cost : List ℕ → List Way → ℕ
unit_cost costs ways = (rest_up (rests_above costs 0 ways) 0).cost

abbrev pub costs_by : List (List Way) → List ℕ → List ℕ
costs_by all costs = map (unit_cost costs) all

-- the costs of all units, where units use one another at most so deep
abbrev pub rounds : ℕ → List (List Way) → List ℕ
rounds zero all = []
rounds (suc n) all = costs_by all (rounds n all)

-- the line of an instruction, and without one that of the END word
abbrev pub line_or : ℕ → Option Step → ℕ
line_or end None = end
line_or end (Some s) = s.place.line

-- the line of a place; after the last instruction that of the END word, where the implicit RET is
abbrev pub line_at : Body → ℕ → ℕ
line_at body place = line_or body.end.line (slice_get body.steps place)

-- the places of the path that the table gives, so many at most
abbrev pub followed : ℕ → List Rest → Option ℕ → List ℕ
followed zero rests at = []
followed (suc n) rests None = []
followed (suc n) rests (Some place) = place ∷ followed n rests (rest_up rests place).next
