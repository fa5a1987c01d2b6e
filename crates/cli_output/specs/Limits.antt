-- What `check --limits` prints of how much of each limit is used (own rules).
use Rattle.std.specs.Prelude.{ℕ, zero, suc, ◌+◌, min, max, nat_lt, Bool, false, if◌then◌else◌, List, [], ◌∷◌, ◌++◌, length, map, Option, Some, None, codes, decimal}
use Rattle.json.specs.Token.{Token}
use Rattle.base_json.specs.declared.form.Form.{Form}
use Rattle.base_json.specs.Forms.{row_in}
use Rattle.base_json.specs.Objects.{number_member, text_member}
use Rattle.il_syntax.specs.declared.tree.Config.{Config}
use Rattle.il_syntax.specs.declared.tree.Unit.{Unit as ProgramUnit}
use Rattle.il_syntax.specs.Grammar.{greatest_depth}
use Rattle.base_maps.specs.NameMap.{Text}
use Rattle.load_slots.specs.Program.{global_cells, own_cells}
use Rattle.scan_task.specs.Listing.{UnitLine, unit_lines}
use Rattle.scan_task.specs.Scanning.{Program}
use Rattle.load_order.specs.Counted.{number_at}
use Rattle.load_order.specs.Related.{holds, tabulate}
use Rattle.load_order.specs.Used.{uses}
use Rattle.il_work_laws.specs.Work.{most_work}
use Rattle.load_work.specs.Sizes.{capped}
use Rattle.group_spec.specs.Image.{sizes_of}
use Rattle.group_spec.specs.Snapshot.{program_of, task_name}
use Rattle.cli_output.specs.declared.limits.Measure.{Measure}
use Rattle.cli_output.specs.declared.limits.Measure.TheVariants.{Instructions, Nesting}
use Rattle.cli_output.specs.declared.limits.Usage.{Usage}
use Rattle.il_syntax.specs.declared.limits.TheConstants.{LONGEST_TEXT, MOST_UNITS, MOST_INSTRUCTIONS, MOST_OPEN}
use Rattle.il_statics.specs.declared.limits.TheConstants.{MOST_TASK_SLOTS, LONGEST_CHAIN}

-- `limit NAME used N of N`
abbrev pub limit_words : List ℕ → ℕ → ℕ → List ℕ
limit_words name used most = codes "limit " ++ (name ++ (codes " used " ++ (decimal used ++ (codes " of " ++ decimal most))))

-- the line of a limit of the whole text
unfoldable pub limit_line : List ℕ → ℕ → ℕ → List ℕ
limit_line name used most = limit_words name used most ++ codes "\n"

-- the line of a limit of a unit or a task, after which its name is
unfoldable pub limit_line_in : List ℕ → ℕ → ℕ → List ℕ → List ℕ
limit_line_in name used most holder = limit_words name used most ++ (codes " in " ++ (holder ++ codes "\n"))

-- the members of both
unfoldable pub limit_members : List ℕ → ℕ → ℕ → List Token
limit_members name used most = text_member (codes "limit") name ++ (number_member (codes "used") used ++ number_member (codes "of") most)

abbrev pub limit_members_in : List ℕ → ℕ → ℕ → List ℕ → List Token
limit_members_in name used most holder = limit_members name used most ++ text_member (codes "in") holder

-- the rows of both
abbrev pub limit_row : Form → List ℕ → ℕ → ℕ → List ℕ
limit_row form name used most = row_in form (limit_line name used most) (limit_members name used most)

abbrev pub limit_row_in : Form → List ℕ → ℕ → ℕ → List ℕ → List ℕ
limit_row_in form name used most holder = row_in form (limit_line_in name used most holder) (limit_members_in name used most holder)

-- UNITS

-- a unit, and how much of a limit it uses
pub record UnitUse : Type 0 where
  pub name : Text
  pub used : ℕ

abbrev pub use_shown : Usage → UnitUse
use_shown usage = record { name = usage.name.now; used = usage.used }

-- the one that uses more; of two that use as much the first
abbrev pub with_more : Option UnitUse → UnitUse → UnitUse
with_more None next = next
with_more (Some best) next = if nat_lt best.used next.used then next else best

-- the first that uses the most
abbrev pub most_of : Option UnitUse → List UnitUse → Option UnitUse
most_of best [] = best
most_of best (next ∷ units) = most_of (Some (with_more best next)) units

-- the instructions of a unit, and its parentheses that are open at once
abbrev pub measured : Measure → ProgramUnit → ℕ
measured Instructions unit = length unit.body.steps
measured Nesting unit = greatest_depth 0 unit.body.steps

abbrev pub unit_use : Measure → ProgramUnit → UnitUse
unit_use measure unit = record { name = unit.name.name; used = measured measure unit }

-- the cost of a unit
abbrev pub cost_use : UnitLine → UnitUse
cost_use line = record { name = line.name; used = line.cost }

-- the row of the unit that uses the most; there is none without units
abbrev pub most_row : Form → List ℕ → Option UnitUse → ℕ → List ℕ
most_row form name None most = []
most_row form name (Some unit) most = limit_row_in form name unit.used most unit.name

-- CHAINS OF USES

-- the greatest value at the numbers below a bound
abbrev pub greatest_below : ℕ → (ℕ → ℕ) → ℕ
greatest_below zero f = 0
greatest_below (suc n) f = max (greatest_below n f) (f n)

-- the length of the chains that go on at a unit, if it is used
abbrev pub chain_through : List (List Bool) → List ℕ → ℕ → ℕ → ℕ
chain_through used lengths from to = if holds used from to then number_at lengths to else 0

-- a unit, and after it the longest chain that goes on at one that it uses; a chain has 16 units at most
abbrev pub chain_from : List (List Bool) → List ℕ → ℕ → ℕ → ℕ
chain_from used lengths count from = min (greatest_below count (λ to. chain_through used lengths from to) + 1) LONGEST_CHAIN

-- the longest chains from each unit on, of so many units at most
unfoldable pub chains : List (List Bool) → ℕ → ℕ → List ℕ
chains used count zero = []
chains used count (suc most) = tabulate count (λ from. chain_from used (chains used count most) count from)

-- the greatest of so many numbers
unfoldable pub longest_of : List ℕ → ℕ → ℕ
longest_of lengths count = greatest_below count (λ from. number_at lengths from)

-- the units of the longest chain of uses, the first counted (2.5)
abbrev pub longest_chain : List (List Bool) → ℕ → ℕ
longest_chain used count = longest_of (chains used count LONGEST_CHAIN) count

-- SLOTS

-- the row of so many slots of a task
abbrev pub slots_row : Form → ℕ → ℕ → List ℕ
slots_row form task slots = limit_row_in form (codes "slots") slots MOST_TASK_SLOTS (task_name task)

-- the slots of a task, its own and those of the functions that it reaches
unfoldable pub slots_of_unit : Form → Config → Option ProgramUnit → ℕ → List ℕ
slots_of_unit form c None task = []
slots_of_unit form c (Some unit) task = slots_row form task (length (own_cells c unit))

abbrev pub task_slots : Form → Config → ℕ → List ℕ
task_slots form c task = slots_of_unit form c (program_of c task) task

-- those of the cars' tasks up to a number
abbrev pub car_slots : Form → Config → ℕ → List ℕ
car_slots form c zero = []
car_slots form c (suc car) = car_slots form c car ++ task_slots form c (suc car)

-- CAR1 to CARn, and GROUP
abbrev pub slots_rows : Form → Config → List ℕ
slots_rows form c = car_slots form c (sizes_of c).cars ++ task_slots form c 0

-- WORK

-- the most work of a unit: its steps, and the values that calls set and copy
abbrev pub work_use : Config → ProgramUnit → UnitUse
work_use c unit = record { name = unit.name.name; used = capped (most_work c unit) }

-- `work N in UNIT`
unfoldable pub work_line : ℕ → Text → List ℕ
work_line used name = codes "work " ++ (decimal used ++ (codes " in " ++ (name ++ codes "\n")))

abbrev pub work_members : ℕ → Text → List Token
work_members used name = number_member (codes "work") used ++ text_member (codes "in") name

-- the row of the unit that does the most; there is none without units
abbrev pub work_row : Form → Option UnitUse → List ℕ
work_row form None = []
work_row form (Some unit) = row_in form (work_line unit.used unit.name) (work_members unit.used unit.name)

abbrev pub work_rows : Form → Config → List ℕ
work_rows form c = work_row form (most_of None (map (work_use c) c.units))

-- ALL LIMITS

-- of a text of so many bytes, and of its units
unfoldable pub text_limits : Form → Config → ℕ → List ℕ
text_limits form c bytes = limit_row form (codes "bytes") bytes LONGEST_TEXT ++ limit_row form (codes "units") (length c.units) MOST_UNITS

-- and of the bodies of its units
unfoldable pub body_limits : Form → Config → List ℕ
body_limits form c =
    most_row form (codes "instructions") (most_of None (map (unit_use Instructions) c.units)) MOST_INSTRUCTIONS ++ most_row form (codes "nesting") (most_of None (map (unit_use Nesting) c.units)) MOST_OPEN

abbrev pub unit_limits : Form → Config → ℕ → List ℕ
unit_limits form c bytes = text_limits form c bytes ++ body_limits form c

-- of chains, slots and costs
unfoldable pub run_limits : Form → Program → List ℕ
run_limits form p =
    limit_row form (codes "chain") (longest_chain (uses p.config false) (length p.config.units)) LONGEST_CHAIN
    ++ (slots_rows form p.config
    ++ (limit_row form (codes "globals") (length (global_cells p.config)) MOST_TASK_SLOTS ++ most_row form (codes "cost") (most_of None (map cost_use (unit_lines p.config.units p.costs))) 1000000))

-- of a program whose text has so many bytes, and its work, which has no limit of its own
abbrev pub limits_rows : Form → Program → ℕ → List ℕ
limits_rows form p bytes = unit_limits form p.config bytes ++ (run_limits form p ++ work_rows form p.config)
