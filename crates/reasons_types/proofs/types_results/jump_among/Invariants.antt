use Rattle.std.proofs.Common.{◌≡◌, drop}
use Rattle.reasons_types.specs.ResultReasons.{jump_among}
use Rattle.reasons_types.proofs.types_results.jump_among.Given as goal

-- what is left answers for all
abbrev pub invariant-loop-step : goal.invariant-loop-step
invariant-loop-step l = jump_among l.scope.unit.body l.place (drop l.step-index l.steps) ≡ jump_among l.scope.unit.body l.place l.steps
