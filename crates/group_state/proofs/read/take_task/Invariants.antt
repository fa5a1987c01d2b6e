use Rattle.std.proofs.Common.{◌≡◌, ◌+◌, ◌^◌, ◌<◌, Some, length, drop}
use Rattle.il_syntax.specs.declared.tree.Unit.{Unit as ProgramUnit}
use Rattle.il_semantics.specs.Scan.{opening_variables}
use Rattle.il_semantics.specs.State.{Values}
use Rattle.group_spec.specs.Snapshot.{program_of}
use Rattle.group_state.specs.declared.fault.Wrong.{Wrong}
use Rattle.group_state.specs.Text.{task_path}
use Rattle.group_state.specs.Parts.{IsSplit}
use Rattle.group_state.specs.Variables.{Reached, reached, at_rest, TakesVariables, RefusesVariables}
use Rattle.group_state.specs.Walking.{with_task}
use Rattle.group_state.proofs.read.take_task.Given as goal

-- what is left completes what was read
abbrev pub invariant-cells : goal.invariant-cells
invariant-cells l = record {
  config : l.core.config ≡ l.initial.core.config;
  split : IsSplit l.rest l.next;
  room : l.line + length l.rest < 2 ^ 64;
  task : (values : Values) × (l.core.group ≡ with_task l.initial.core.group l.task (Some (at_rest values)))
      × ((u : ProgramUnit) → program_of l.verified.config l.task ≡ Some u → (to : Reached)
      → TakesVariables (task_path l.task) (opening_variables l.verified.config u) (drop l.at l.cells) (reached values l.rest l.line) to
      → TakesVariables (task_path l.task) (opening_variables l.verified.config u) l.cells (reached (opening_variables l.verified.config u) l.initial.rest l.initial.line) to);
  wrong : (u : ProgramUnit) → program_of l.verified.config l.task ≡ Some u → (wrong : Wrong)
      → RefusesVariables (task_path l.task) (opening_variables l.verified.config u) (drop l.at l.cells) l.rest l.line wrong
      → RefusesVariables (task_path l.task) (opening_variables l.verified.config u) l.cells l.initial.rest l.initial.line wrong;
}
