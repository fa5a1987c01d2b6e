use Rattle.il_statics.specs.Least.{IsLeast, Below}
use Rattle.load_types.specs.Writers.{HasSharedStore}
use Rattle.load_types.proofs.writers.shared_fault.Given as goal

abbrev pub invariant-loop-at : goal.invariant-loop-at
invariant-loop-at l = IsLeast l.found (Below (λ at unit. HasSharedStore l.writers unit) l.names.units l.at)
