-- What the code keeps of units and tasks (own rules).
use Rattle.std.specs.Prelude.{◌≡◌, ℕ, true, nat_lt, List, length, map, slice_get, Option, Some, None}
use Rattle.il_syntax.specs.declared.tree.Config.{Config}
use Rattle.il_syntax.specs.declared.tree.Body.{Body}
use Rattle.il_syntax.specs.declared.tree.Unit.{Unit as ProgramUnit}
use Rattle.il_syntax.specs.declared.tree.ProgramLine.{ProgramLine}
use Rattle.il_syntax.specs.declared.tree.Place.{Place}
use Rattle.il_statics.specs.Least.{When, Below}
use Rattle.il_semantics.specs.Paths.{longest}
use Rattle.load_scope.specs.Views.{program_number}
use Rattle.load_budgets.specs.declared.ways.Way.{Way}
use Rattle.load_budgets.specs.Tables.{number_at, rests_above}
use Rattle.load_budgets.specs.Rounds.{unit_ways, line_at, followed}
use Rattle.load_budgets.specs.Costs.{path_of}

-- units below an index that cost too much
abbrev pub AreOver : Config → List ℕ → ℕ → ℕ → Place → Type 0
AreOver c costs = Below (λ at unit. When (nat_lt 1000000 (number_at costs at) ≡ true) 50 unit.place) c.units

-- the lines of the path by the table
abbrev pub kept_path : Body → List Way → List ℕ → List ℕ
kept_path body ways costs = map (line_at body) (followed (length (rests_above costs 0 ways)) (rests_above costs 0 ways) (Some 0))

-- costs are the units' own, and so are the paths by their table
pub record AreExact (c : Config) (costs : List ℕ) : Type 0 where
  pub greatest : costs ≡ map (longest c) c.units
  pub paths : (k : ℕ) (u : ProgramUnit) → slice_get c.units k ≡ Some u → kept_path u.body (unit_ways c u) costs ≡ path_of c u

-- the cost of the unit of a number; 0 without one
abbrev pub cost_at : List ℕ → Option ℕ → ℕ
cost_at costs None = 0
cost_at costs (Some number) = number_at costs number

-- the cost of the program of a PROGRAM line
abbrev pub task_cost : Config → List ℕ → ProgramLine → ℕ
task_cost c costs line = cost_at costs (program_number c line.program.name)
