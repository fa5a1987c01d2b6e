use Rattle.std.proofs.Common.{subst}
use Rattle.il_statics.specs.Faults.{HasNoFault, Broken, Typing}
use Rattle.load_types.proofs.typed.Goals as goal

pub of-requires : goal.of-requires
of-requires c = subst (λ k. HasNoFault (Broken Typing k)) c.names.ensures c.in_ok-check.ensures.accepted

pub returns-clause-accepted : goal.returns-clause-accepted
returns-clause-accepted c = subst (λ k. HasNoFault (Broken Typing k)) c.names.ensures c.in_ok-check.ensures.accepted
