-- What units and tasks cost (own rules).
use Rattle.std.specs.Prelude.{◌≡◌, ℕ, ◌<◌, List, [], ◌∷◌, length, map, slice_get, Some, Contains, refl}
use Rattle.std.specs.Coded.{Coded, code_by, coded×, coded_list, coded_ℕ}
use Rattle.il_syntax.specs.declared.tree.Config.{Config}
use Rattle.il_syntax.specs.declared.tree.Unit.{Unit as ProgramUnit}
use Rattle.il_syntax.specs.declared.tree.ProgramLine.{ProgramLine}
use Rattle.il_syntax.specs.declared.tree.Place.{Place}
use Rattle.il_statics.specs.Names.{program_named}
use Rattle.il_semantics.specs.Paths.{IsLongest, longest, longest_path}
use Rattle.il_semantics_laws.specs.Forward.{IsPathAt}
use Rattle.load_budgets.specs.declared.fault.BudgetFault.{BudgetFault}
use Rattle.load_budgets.specs.declared.fault.BudgetFault.TheVariants.{TooLong}
use Rattle.load_budgets.specs.declared.answer.Budget.{Budget}
use Rattle.load_budgets.specs.declared.answer.Path.{Path}
use Rattle.load_budgets.specs.Rounds.{line_at}

-- the number under which the fault is printed
abbrev pub budget_fault_number : BudgetFault → ℕ
budget_fault_number TooLong = 50

-- BUDGETS AND PATHS

-- a budget is the greatest costs: of each unit, and of the program of each PROGRAM line
pub record AreBudgets (c : Config) (b : Budget) : Type 0 where
  pub units : (k : ℕ) (u : ProgramUnit) → slice_get c.units k ≡ Some u → (cost : ℕ) × (slice_get b.units k ≡ Some cost) × IsLongest c u cost
  pub many_units : length b.units ≡ length c.units
  pub tasks : (k : ℕ) (line : ProgramLine) (u : ProgramUnit) → slice_get c.programs k ≡ Some line → program_named c line.program.name ≡ Some u
      → (cost : ℕ) × (slice_get b.tasks k ≡ Some cost) × IsLongest c u cost
  pub many_tasks : length b.tasks ≡ length c.programs

-- of each unit the lines of a path of the greatest cost: where both ways cost the same, it doesn't jump, return or call
pub record ArePaths (c : Config) (p : Path) : Type 0 where
  pub units : (k : ℕ) (u : ProgramUnit) → slice_get c.units k ≡ Some u
      → (cost : ℕ) × (places : List ℕ) × (slice_get p.units k ≡ Some (map (line_at u.body) places)) × IsLongest c u cost × IsPathAt c u cost places
  pub many : length p.units ≡ length c.units

-- 50: a unit whose greatest cost is over 1000000, at its heading
pub data IsTooLong (config : Config) (number : ℕ) (place : Place) : Type 0 where
  too_long : (unit : ProgramUnit) (cost : ℕ) → Contains config.units unit → IsLongest config unit cost → 1000000 < cost → number ≡ 50 → place ≡ unit.place → IsTooLong config number place

-- BY THE TABLE

-- a unit's greatest cost, and the lines of a control path of that cost
pub record UnitCost : Type 0 where
  pub cost : ℕ
  pub path : List ℕ

-- its code
abbrev pub unit_cost_code : Coded UnitCost
unit_cost_code = code_by (ℕ × List ℕ) (coded× coded_ℕ (coded_list coded_ℕ)) (λ u. (u.cost, u.path)) (λ p. record { cost = p.0; path = p.1 }) (λ _. refl)

-- what a unit costs at most, and the lines of a control path of that cost
abbrev pub cost_of : Config → ProgramUnit → UnitCost
cost_of c u = record { cost = longest c u; path = map (line_at u.body) (longest_path c u) }

-- the lines of a unit's path
abbrev pub path_of : Config → ProgramUnit → List ℕ
path_of c u = (cost_of c u).path
