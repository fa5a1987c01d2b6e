use Rattle.std.proofs.Common.{◌≡◌, IfOk, sym, subst}
use Rattle.il_statics.specs.Faults.{BreaksDeclarations, Broken, Typing, HasNoFault}
use Rattle.il_semantics.specs.Annotation.{Annotated}
use Rattle.load_budgets.proofs.check.Goals as goal

pub annotated-requires-clause-declared : goal.annotated-requires-clause-declared
annotated-requires-clause-declared c = subst (λ d. HasNoFault (BreaksDeclarations d)) (sym c.names.ensures.is) c.names.ensures.declared

pub annotated-requires-clause-typed : goal.annotated-requires-clause-typed
annotated-requires-clause-typed c = subst (λ d. HasNoFault (Broken Typing d)) (sym c.names.ensures.is) c.names.ensures.typed

pub returns-clause-accepted : goal.returns-clause-accepted
returns-clause-accepted c = subst (λ d. IfOk c.annotated.result (λ _. Annotated d)) c.names.ensures.is c.annotated.ensures.annotated
