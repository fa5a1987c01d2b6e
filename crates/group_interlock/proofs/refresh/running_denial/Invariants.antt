use Rattle.std.proofs.Common.{◌≡◌, ◌+◌, drop}
use Rattle.group_spec.specs.Settle.{first_denial, denies_running, running_order}
use Rattle.group_interlock.specs.Beside.{first_cars}
use Rattle.group_interlock.proofs.refresh.running_denial.Given as goal

abbrev pub invariant-loop-rule : goal.invariant-loop-rule
invariant-loop-rule l = first_denial (denies_running l.all (first_cars l.running) (l.running + 1) l.fields l.outputs) (drop l.rule-index running_order) ≡ first_denial (denies_running l.all (first_cars l.running) (l.running + 1) l.fields l.outputs) running_order
