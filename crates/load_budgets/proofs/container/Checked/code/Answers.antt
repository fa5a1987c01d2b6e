use Rattle.std.proofs.Common.{subst}
use Rattle.il_semantics.specs.Annotation.{Annotated}
use Rattle.load_budgets.proofs.container.Checked.code.Goals as goal

pub returns-clause-annotated : goal.returns-clause-annotated
returns-clause-annotated c = subst Annotated c.self.view_is c.self.invariant
