use Rattle.std.proofs.Common.{subst, ◌∙◌}
use Rattle.il_statics.specs.Faults.{HasNoFault, BreaksDeclarations}
use Rattle.il_statics.specs.Written.{IsWritten, HasFewInstructions, IsNested}
use Rattle.load_declarations.proofs.declared.Declared.config.Goals as goal

pub returns-clause-declared : goal.returns-clause-declared
returns-clause-declared c = subst (λ k. HasNoFault (BreaksDeclarations k)) c.self.view_is c.self.invariant

pub returns-clause-written : goal.returns-clause-written
returns-clause-written c = subst IsWritten (c.written.ensures ∙ c.self.view_is) c.tree.ensures.written

pub returns-clause-few : goal.returns-clause-few
returns-clause-few c = subst HasFewInstructions (c.written.ensures ∙ c.self.view_is) c.tree.ensures.few

pub returns-clause-nested : goal.returns-clause-nested
returns-clause-nested c = subst IsNested (c.written.ensures ∙ c.self.view_is) c.tree.ensures.nested
