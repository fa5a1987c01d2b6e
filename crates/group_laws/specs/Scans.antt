-- What the law of all runs asks of a single scan, and of the opening (own rules).
use Rattle.std.specs.Prelude.{◌≡◌, ℕ, ◌≤◌, false, Contains}
use Rattle.il_syntax.specs.declared.tree.Config.{Config}
use Rattle.il_syntax.specs.declared.tree.Scalar.{Scalar}
use Rattle.il_syntax.specs.declared.tree.Unit.{Unit as ProgramUnit}
use Rattle.base_maps.specs.NameMap.{Text}
use Rattle.il_semantics.specs.State.{State}
use Rattle.il_semantics.specs.Step.{step, Next}
use Rattle.il_semantics.specs.Scan.{Reaches, has_ended, written_paths, opening_variables, opening_globals}
use Rattle.il_semantics.specs.Ranges.{HasValue, HaveValues, HoldGlobals, task_scalars, global_scalars, HoldsTask}
use Rattle.group_spec.specs.Snapshot.{scan_begins}
use Rattle.group_spec.specs.World.{TaskState, Group, beginning_of, InRanges}
use Rattle.group_laws.specs.Tasks.{IsTaskOf, budget_of, output_scalars, IsSized}

-- A state of a scan of a task, after so many steps (own rule).
pub record ScanHolds (c : Config) (t : ℕ) (u : ProgramUnit) (n : ℕ) (s : State) : Type 0 where
  -- before its end it has a next state: it neither traps nor sticks
  pub goes_on : has_ended s ≡ false → (next : State) × (step c s ≡ Next next)
  -- and no more steps were made than the budget
  pub within : n ≤ budget_of c t
  -- the task's variables have values of their declared sets
  pub variables : HaveValues s.values (task_scalars c u)
  -- and so do the outputs that it writes
  pub outputs : HaveValues s.values (output_scalars c t)
  -- and the globals that it writes
  pub globals : (p : Text × Scalar) → Contains (global_scalars c) p → Contains (written_paths u) p.0 → HasValue s.values p

-- The premise of the law of all runs: every scan that begins with the task's variables in their declared sets, in a group
-- whose image lies in its ranges, goes well (own rule).
abbrev pub ScansWell : Config → Type 0
ScansWell c =
    (t : ℕ) (u : ProgramUnit) (g : Group) (task : TaskState) (n : ℕ) (s : State) → IsTaskOf c t u → InRanges c g → HoldsTask c u task.variables
    → Reaches c n (scan_begins c t (beginning_of g task)) s → ScanHolds c t u n s

-- The other premise: the sizes count something, and globals and variables open with values of their declared sets (own rule).
pub record OpensWell (c : Config) : Type 0 where
  pub sized : IsSized c
  pub globals : HoldGlobals c (opening_globals c)
  pub variables : (t : ℕ) (u : ProgramUnit) → IsTaskOf c t u → HoldsTask c u (opening_variables c u)
