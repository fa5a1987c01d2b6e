use Rattle.il_statics.specs.Least.{IsLeast, Below}
use Rattle.load_declarations.specs.Written.{shown, Misdeclared}
use Rattle.load_declarations.proofs.types.declarations_fault.Given as goal

abbrev pub invariant-loop-declaration : goal.invariant-loop-declaration
invariant-loop-declaration l = IsLeast l.found (Below (λ at. Misdeclared l.names (shown l.admitted)) l.declarations l.declaration-index)
