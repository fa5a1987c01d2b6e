use Rattle.std.proofs.Common.{sym, subst}
use Rattle.std.specs.Prelude.{IfOk}
use Rattle.il_semantics.specs.Annotation.{Annotated}
use Rattle.load_budgets.proofs.verify.Goals as goal

pub of-requires : goal.of-requires
of-requires c = subst Annotated (sym c.in_ok-code.ensures.ok.0) (subst (λ r. IfOk r (λ _. Annotated c.args.code)) c.in_ok-code.ensures.ok.1 c.check-found.ensures.accepted)
