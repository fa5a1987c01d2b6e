use Rattle.il_statics.specs.Least.{IsLeast, Below}
use Rattle.load_declarations.specs.Externals.{BreaksExternals}
use Rattle.load_declarations.proofs.externals.externals_fault.Given as goal

abbrev pub invariant-loop-external : goal.invariant-loop-external
invariant-loop-external l = IsLeast l.found (Below (λ at. BreaksExternals l.names) l.externals l.external-index)
