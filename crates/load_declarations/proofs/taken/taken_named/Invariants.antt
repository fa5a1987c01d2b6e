use Rattle.il_statics.specs.Least.{IsLeast, Below}
use Rattle.load_declarations.specs.Taken.{TakenName}
use Rattle.load_declarations.proofs.taken.taken_named.Given as goal

abbrev pub invariant-loop-name : goal.invariant-loop-name
invariant-loop-name l = IsLeast l.found (Below (λ at. TakenName l.names) l.named l.name-index)
