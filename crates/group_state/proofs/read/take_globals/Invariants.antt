use Rattle.std.proofs.Common.{◌≡◌, ◌+◌, ◌^◌, ◌<◌, length, drop}
use Rattle.il_semantics.specs.Scan.{opening_globals}
use Rattle.group_state.specs.declared.fault.Wrong.{Wrong}
use Rattle.group_state.specs.Text.{global_path}
use Rattle.group_state.specs.Holding.{with_globals}
use Rattle.group_state.specs.Parts.{IsSplit}
use Rattle.group_state.specs.Variables.{Reached, reached, TakesVariables, RefusesVariables}
use Rattle.group_state.proofs.read.take_globals.Given as goal

-- what is left completes what was read
abbrev pub invariant-cells : goal.invariant-cells
invariant-cells l = record {
  config : l.core.config ≡ l.initial.core.config;
  group : l.core.group ≡ with_globals l.initial.core.group l.core.group.globals;
  split : IsSplit l.rest l.next;
  room : l.line + length l.rest < 2 ^ 64;
  more : (to : Reached) → TakesVariables global_path (opening_globals l.verified.config) (drop l.at l.cells) (reached l.core.group.globals l.rest l.line) to
      → TakesVariables global_path (opening_globals l.verified.config) l.cells (reached (opening_globals l.verified.config) l.initial.rest l.initial.line) to;
  wrong : (wrong : Wrong) → RefusesVariables global_path (opening_globals l.verified.config) (drop l.at l.cells) l.rest l.line wrong
      → RefusesVariables global_path (opening_globals l.verified.config) l.cells l.initial.rest l.initial.line wrong;
}
