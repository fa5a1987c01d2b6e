use Rattle.std.proofs.Common.{subst}
use Rattle.il_syntax.specs.declared.tree.Config.{Config}
use Rattle.il_statics.specs.Faults.{HasNoFault, Broken, Typing, Ordering, BreaksDeclarations}
use Rattle.il_statics.specs.Written.{IsWritten, HasFewInstructions, IsNested}
use Rattle.load_order.proofs.container.Ordered.config.Goals as goal

pub returns-clause-declared : goal.returns-clause-declared
returns-clause-declared c = subst (λ (d : Config). HasNoFault (BreaksDeclarations d)) c.self.view_is c.config.ensures.declared

pub returns-clause-typed : goal.returns-clause-typed
returns-clause-typed c = subst (λ (d : Config). HasNoFault (Broken Typing d)) c.self.view_is c.config.ensures.typed

pub returns-clause-ordered : goal.returns-clause-ordered
returns-clause-ordered c = subst (λ (d : Config). HasNoFault (Broken Ordering d)) c.self.view_is c.self.invariant.0

pub returns-clause-written : goal.returns-clause-written
returns-clause-written c = subst IsWritten c.self.view_is c.config.ensures.written

pub returns-clause-few : goal.returns-clause-few
returns-clause-few c = subst HasFewInstructions c.self.view_is c.config.ensures.few

pub returns-clause-nested : goal.returns-clause-nested
returns-clause-nested c = subst IsNested c.self.view_is c.config.ensures.nested
