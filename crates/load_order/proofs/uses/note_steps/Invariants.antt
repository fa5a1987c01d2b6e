use Rattle.std.proofs.Common.{◌≡◌, ◌++◌, drop}
use Rattle.load_order.specs.Used.{called_by}
use Rattle.load_order.proofs.uses.note_steps.Given as goal

abbrev pub invariant-loop-step : goal.invariant-loop-step
invariant-loop-step l = l.used ++ called_by l.names (drop l.step-index l.steps) ≡ l.fn.used ++ called_by l.names l.steps
