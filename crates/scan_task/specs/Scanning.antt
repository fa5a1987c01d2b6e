-- Configurations that run, and the scans of their tasks (own rules).
use Rattle.std.specs.Prelude.{◌≡◌, ℕ, ◌≤◌, List, [], take, drop, length, Option, Some, None, refl, slice_get}
use Rattle.std.specs.Coded.{Coded, code_by, coded×, coded_list}
use Rattle.il_syntax.specs.contracts.tree.Config as config
use Rattle.il_syntax.specs.declared.tree.Config.{Config}
use Rattle.il_syntax.specs.declared.tree.Unit.{Unit as ProgramUnit}
use Rattle.il_statics.specs.Faults.{Declaring, Typing, Ordering, Broken, HasNoFault}
use Rattle.il_statics.specs.Written.{IsWritten, IsNested}
use Rattle.load_budgets.specs.Costs.{UnitCost, unit_cost_code}
use Rattle.il_semantics.specs.declared.value.Content.{Content}
use Rattle.base_maps.specs.NameMap.{empty, with_entries}
use Rattle.il_semantics.specs.State.{Values, Frame, State}
use Rattle.il_semantics.specs.Annotation.{Annotated}
use Rattle.il_semantics.specs.Paths.{longest}
use Rattle.il_semantics.specs.Ranges.{HoldsTask}
use Rattle.il_semantics_laws.specs.Agreement.{Agrees, left}
use Rattle.il_statics.specs.Declarations.{declared_limits}
use Rattle.il_semantics.specs.declared.value.Value.{Value}
use Rattle.load_slots.specs.declared.flat.Cell.{Cell}
use Rattle.load_slots.specs.Layout.{Rows, rows, Fits, view, value_by}
use Rattle.scan_step.specs.Effect.{with_some}
use Rattle.load_slots.specs.Program.{own_cells, seen_cells, program_code}
use Rattle.scan_loop.specs.Going.{Stored}
use Rattle.scan_loop.specs.Framing.{framed, all_frames, state_by, IsFramedScan}
use Rattle.group_spec.specs.Snapshot.{program_of}
use Rattle.group_laws.specs.Tasks.{IsTaskOf}
use Rattle.scan_task.specs.Nesting.{AreNested}

-- A verified configuration as contracts see it: the tree, and what each unit costs.
pub record Program : Type 0 where
  pub config : Config
  pub costs : List UnitCost

-- its code
abbrev pub verified_code : Coded Program
verified_code = code_by (Config × List UnitCost) (coded× config.the_row.coded (coded_list unit_cost_code)) (λ p. (p.config, p.costs)) (λ c. record { config = c.0; costs = c.1 }) (λ _. refl)

-- A configuration that the machine runs: a text spells it, it breaks no rule, each unit has an annotation, and no more parentheses are open at once than a text may have.
pub record IsRunnable (c : Config) : Type 0 where
  pub written : IsWritten c
  pub declared : HasNoFault (Broken Declaring c)
  pub typed : HasNoFault (Broken Typing c)
  pub ordered : HasNoFault (Broken Ordering c)
  pub annotated : Annotated c
  pub nested : IsNested c

-- a task of the group: 0 is GROUP, k is CARk
abbrev pub HasTask : Config → ℕ → Type 0
HasTask c task = (u : ProgramUnit) × IsTaskOf c task u

-- WHAT A SCAN KEEPS

-- the values of the second over those of the first
abbrev pub over : Values → Values → Values
over values above = with_entries values above.list

-- What a scan keeps, by names: the task's variables, what it was given of globals and image as it is, the frames and the current result.
pub record Kept : Type 0 where
  pub variables : Values
  pub written : Values
  pub frames : List Frame
  pub result : Option Content

-- the state of a scan that a store keeps
abbrev pub state_of : Kept → State
state_of k = record { values = over k.written k.variables; frames = k.frames; result = k.result }

-- the first rows, and those after them
abbrev pub front : ℕ → Rows → Rows
front n r = rows (take n r.numbers) (take n r.flags)

abbrev pub behind : ℕ → Rows → Rows
behind n r = rows (drop n r.numbers) (drop n r.flags)

-- the variables that rows hold for a program, and what they hold of globals and image
unfoldable pub own_view : Config → Option ProgramUnit → Rows → Values
own_view c None r = empty
own_view c (Some u) r = view (own_cells c u) r

unfoldable pub seen_view : Config → Option ProgramUnit → Rows → Values
seen_view c None r = empty
seen_view c (Some u) r = view (seen_cells c u) r

-- how many slots a program's task keeps from one scan to the next
abbrev pub own_count : Config → Option ProgramUnit → ℕ
own_count c None = 0
own_count c (Some u) = length (own_cells c u)

-- the frames of a store, of the program's code
abbrev pub frames_by : Config → Option ProgramUnit → Stored → List Frame
frames_by c None s = []
frames_by c (Some u) s = framed c (program_code c u).units (all_frames s.running s.pairs s.callers)

-- what a store keeps, by the program
abbrev pub kept_by : Config → Option ProgramUnit → Stored → Kept
kept_by c o s = record { variables = own_view c o (front (own_count c o) s.rows); written = seen_view c o (behind (own_count c o) s.rows); frames = frames_by c o s; result = s.result }

-- what a store of a task keeps
abbrev pub kept_of : Config → ℕ → Stored → Kept
kept_of c task s = kept_by c (program_of c task) s

-- the variables of a task that rows hold
abbrev pub variables_in : Config → ℕ → Rows → Values
variables_in c task r = own_view c (program_of c task) r

-- the value at a slot, if rows reach so far
abbrev pub value_at : List Cell → Rows → ℕ → Option Value
value_at cells r slot = with_some (slice_get cells slot) (λ c. with_some (slice_get r.numbers slot) (λ z. with_some (slice_get r.flags slot) (λ b. Some (value_by (declared_limits c.scalar) z b))))

-- a row for each slot of the task's variables
abbrev pub FitsOwn : Config → ℕ → Rows → Type 0
FitsOwn c task r = (u : ProgramUnit) × IsTaskOf c task u × Fits (own_cells c u) r

-- WHAT HOLDS OF A SCAN

-- A store of a scan of a program: its frames and rows are of the program's code, its state agrees with the units' annotations, and no more steps are left than the budget.
pub record IsScanState (c : Config) (u : ProgramUnit) (s : Stored) : Type 0 where
  pub framed : IsFramedScan (program_code c u) s
  pub agrees : Agrees c u (state_by (program_code c u) s)
  pub nested : AreNested c (state_by (program_code c u) s).frames
  pub budget : left c (state_by (program_code c u) s).frames ≤ longest c u

-- a store of a scan of a task's program
abbrev pub IsScanOf : Config → ℕ → Stored → Type 0
IsScanOf c task s = (u : ProgramUnit) × IsTaskOf c task u × IsScanState c u s

-- the variables of a task are those of its program and of the functions that it uses, each with a value of its declared set
abbrev pub OwnsDeclared : Config → ℕ → Values → Type 0
OwnsDeclared c task variables = (u : ProgramUnit) → program_of c task ≡ Some u → HoldsTask c u variables
