use Rattle.il_syntax.specs.declared.token.Sign.TheVariants.{OpenParenthesis}
use Rattle.il_syntax.specs.Grammar.{TheSign}
use Rattle.load_lines.proofs.Chain.{up, it_comes}
use Rattle.load_lines.proofs.Instructions.{subrange_refused}
use Rattle.std.proofs.Common.{Some, refl}
use Rattle.load_lines.proofs.Breaks.{any_breaks, map_breaks, up_breaks}
use Rattle.load_lines.proofs.Completions.{limits_sampled, lines_break}
use Rattle.load_lines.proofs.source.Source.subrange.Goals as goal

pub returns-in_err-limits-clause-refused : goal.returns-in_err-limits-clause-refused
returns-in_err-limits-clause-refused c =
    let there = it_comes (TheSign OpenParenthesis) c.args.tokens.now _ c.sign_comes.ensures.comes c.if-not-sign_comes.false in
    let bad = rw c.skip_lines.ensures.rest at c.in_err-limits.ensures.refused in
    up _ c.from_residual.ensures.1 (subrange_refused c.args.self.now _ _ _ there.1 bad)

pub returns-in_err-limits-clause-begins : goal.returns-in_err-limits-clause-begins
returns-in_err-limits-clause-begins c = up_breaks _ c.from_residual.ensures.1 (map_breaks (λ x. Some x) (λ x other us r w. w) (any_breaks (lines_break limits_sampled refl (rw c.skip_lines.ensures.rest at c.in_err-limits.ensures.begins))))
