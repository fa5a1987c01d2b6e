use Rattle.std.proofs.Common.{◌≡◌, subst}
use Rattle.std.specs.Prelude.{IfOk, IfErr}
use Rattle.il_statics.specs.Faults.{HasNoFault, IsRefusedBy, BreaksDeclarations}
use Rattle.load_declarations.proofs.declare.Goals as goal

pub returns-clause-same : goal.returns-clause-same
returns-clause-same c = subst (λ k. IfOk c.declare_scoped.result (λ d. d ≡ k)) c.in_ok-scoped.ensures c.declare_scoped.ensures.same

pub returns-clause-accepted : goal.returns-clause-accepted
returns-clause-accepted c = subst (λ k. IfOk c.declare_scoped.result (λ _. HasNoFault (BreaksDeclarations k))) c.in_ok-scoped.ensures c.declare_scoped.ensures.accepted

pub returns-clause-refused : goal.returns-clause-refused
returns-clause-refused c = subst (λ k. IfErr c.declare_scoped.result (IsRefusedBy (BreaksDeclarations k))) c.in_ok-scoped.ensures c.declare_scoped.ensures.refused
