use Rattle.std.proofs.Common.{◌≡◌, true}
use Rattle.il_statics.specs.Least.{IsLeast, Below, When}
use Rattle.load_types.specs.Writers.{stores_shared}
use Rattle.load_types.proofs.writers.unit_shared_fault.Given as goal

abbrev pub invariant-loop-step : goal.invariant-loop-step
invariant-loop-step l = IsLeast l.found (Below (λ at s. When (stores_shared l.unit l.writers s ≡ true) 38 s.place) l.unit.body.steps l.step-index)
