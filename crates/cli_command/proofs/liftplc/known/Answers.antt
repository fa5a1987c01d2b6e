use Rattle.std.proofs.Common.{subst, sym}
use Rattle.il_statics.specs.Faults.{HasNoFault, BreaksDeclarations, Broken, Typing}
use Rattle.cli_command.proofs.liftplc.known.Goals as goal

pub ranges_in-requires-clause-declared : goal.ranges_in-requires-clause-declared
ranges_in-requires-clause-declared c = subst (λ d. HasNoFault (BreaksDeclarations d)) (sym c.names-names.ensures) c.in-Ok.ensures.found.1.declared

pub ranges_in-requires-clause-typed : goal.ranges_in-requires-clause-typed
ranges_in-requires-clause-typed c = subst (λ d. HasNoFault (Broken Typing d)) (sym c.names-names.ensures) c.in-Ok.ensures.found.1.typed
