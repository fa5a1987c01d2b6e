use Rattle.std.proofs.Common.{sym, ◌∙◌}
use Rattle.il_syntax.specs.declared.tree.Config.{Config}
use Rattle.load_text.proofs.Accepting.{handed_on, none_spelled}
use Rattle.reasons_tokens.proofs.spelled.Goals as goal

pub returns-in_err-tokens-clause-none : goal.returns-in_err-tokens-clause-none
returns-in_err-tokens-clause-none c = λ fault d a. c.in_err-tokens.ensures.refused (handed_on Config _ _ c.from_residual.ensures.1 fault) a.limits.bytes a.spelled.0 a.spelled.1

pub returns-in_err-written-clause-none : goal.returns-in_err-written-clause-none
returns-in_err-written-clause-none c = λ fault.
    none_spelled c.args.text.now c.deref.result.now (λ ts cut. c.in_ok-tokens.ensures.only ts cut ∙ sym c.deref.ensures.value) (c.in_err-written.ensures.refused (handed_on Config _ _ c.from_residual-in_err-written.ensures.1 fault))
