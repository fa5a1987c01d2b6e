use Rattle.il_statics.specs.Least.{IsLeast, Below}
use Rattle.load_declarations.specs.Externals.{BreaksExternal}
use Rattle.load_declarations.proofs.externals.names_fault.Given as goal

abbrev pub invariant-loop-name : goal.invariant-loop-name
invariant-loop-name l = IsLeast l.found (Below (λ at. BreaksExternal l.names l.external) l.named l.name-index)
