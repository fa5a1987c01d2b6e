use Rattle.std.proofs.Common.{subst}
use Rattle.il_statics.specs.Faults.{HasNoFault, BreaksDeclarations, Broken, Typing}
use Rattle.scan_task.proofs.verified.Verified.names.Goals as goal

pub returns-clause-declared : goal.returns-clause-declared
returns-clause-declared c = subst (λ d. HasNoFault (BreaksDeclarations d)) c.code.ensures.same c.names.ensures.declared

pub returns-clause-typed : goal.returns-clause-typed
returns-clause-typed c = subst (λ d. HasNoFault (Broken Typing d)) c.code.ensures.same c.names.ensures.typed
