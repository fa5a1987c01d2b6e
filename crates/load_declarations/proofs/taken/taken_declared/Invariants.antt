use Rattle.il_statics.specs.Least.{IsLeast, Below}
use Rattle.load_declarations.specs.Taken.{TakenNames}
use Rattle.load_declarations.proofs.taken.taken_declared.Given as goal

abbrev pub invariant-loop-declaration : goal.invariant-loop-declaration
invariant-loop-declaration l = IsLeast l.found (Below (λ at. TakenNames l.names) l.declarations l.declaration-index)
