use Rattle.std.proofs.Common.{subst}
use Rattle.il_statics.specs.Faults.{Broken, Declaring, Typing, Ordering, HasNoFault}
use Rattle.il_semantics.specs.Annotation.{Annotated}
use Rattle.load_budgets.proofs.container.Checked.names.Goals as goal

pub returns-clause-declared : goal.returns-clause-declared
returns-clause-declared c = subst (λ d. HasNoFault (Broken Declaring d)) c.self.view_is c.names.ensures.declared

pub returns-clause-typed : goal.returns-clause-typed
returns-clause-typed c = subst (λ d. HasNoFault (Broken Typing d)) c.self.view_is c.names.ensures.typed

pub returns-clause-ordered : goal.returns-clause-ordered
returns-clause-ordered c = subst (λ d. HasNoFault (Broken Ordering d)) c.self.view_is c.names.ensures.ordered

pub returns-clause-annotated : goal.returns-clause-annotated
returns-clause-annotated c = subst Annotated c.self.view_is c.self.invariant
