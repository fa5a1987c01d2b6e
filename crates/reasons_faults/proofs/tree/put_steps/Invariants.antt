use Rattle.std.proofs.Common.{◌≡◌, ◌++◌, flat_map, take, string_bytes}
use Rattle.reasons_faults.specs.TreeReasons.{step_lines}
use Rattle.reasons_faults.proofs.tree.put_steps.Given as goal

-- the steps so far
abbrev pub invariant-steps : goal.invariant-steps
invariant-steps l = string_bytes l.text ≡ string_bytes l.initial.text ++ flat_map (step_lines l.scope.config l.scope.unit l.number l.offset) (take l.step-index l.steps)
