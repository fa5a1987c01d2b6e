use Rattle.std.proofs.Common.{subst, sym}
use Rattle.il_statics.specs.Faults.{HasNoFault, BreaksDeclarations, Broken, Typing}
use Rattle.cli_output.proofs.outcome.shown.Goals as goal

pub ranges_in-text-requires-clause-declared : goal.ranges_in-text-requires-clause-declared
ranges_in-text-requires-clause-declared c = subst (λ d. HasNoFault (BreaksDeclarations d)) (sym c.names.ensures.same) c.names.ensures.declared

pub ranges_in-text-requires-clause-typed : goal.ranges_in-text-requires-clause-typed
ranges_in-text-requires-clause-typed c = subst (λ d. HasNoFault (Broken Typing d)) (sym c.names.ensures.same) c.names.ensures.typed
