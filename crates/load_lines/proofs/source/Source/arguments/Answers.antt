use Rattle.std.proofs.Common.{arith, refl}
use Rattle.il_syntax.specs.declared.token.Sign.TheVariants.{OpenParenthesis}
use Rattle.il_syntax.specs.Grammar.{TheSign}
use Rattle.load_lines.proofs.Chain.{up, was_there, was_missing}
use Rattle.load_lines.proofs.Instructions.{none_opens, opened_refused, arguments_read}
use Rattle.load_lines.proofs.Through.{ok_through, err_through}
use Rattle.load_lines.proofs.Completions.{arguments_is, opened_sampled}
use Rattle.il_syntax_laws.proofs.Samples.{arguments_sampled}
use Rattle.load_lines.proofs.Breaks.{at_first, map_breaks, part_loose, up_breaks}
use Rattle.il_syntax_laws.proofs.Open.{sign_fills}
use Rattle.load_lines.proofs.source.Source.arguments.Goals as goal

pub returns-in_err-line_end-clause-refused : goal.returns-in_err-line_end-clause-refused
returns-in_err-line_end-clause-refused c =
    let none = was_missing (TheSign OpenParenthesis) c.args.tokens.now _ c.eat_sign.new.tokens c.eat_sign.ensures.eaten c.if-not-eat_sign.true in
    up _ c.from_residual.ensures.1 (none_opens c.args.self.now _ _ none.1 (rw none.0 at c.in_err-line_end.ensures.refused))

pub returns-clause-refused : goal.returns-clause-refused
returns-clause-refused c = err_through c.opened.result c.opened.ensures.refused (λ e bad.
    let there = was_there (TheSign OpenParenthesis) c.args.tokens.now _ c.eat_sign.new.tokens c.eat_sign.ensures.eaten c.if-not-eat_sign.false in
    (opened_refused c.args.self.now _ _ _ there (rw c.skip_lines.ensures.rest at bad)))

pub returns-clause-reads : goal.returns-clause-reads
returns-clause-reads c = ok_through c.opened.result c.opened.ensures.reads (λ x here.
    let there = was_there (TheSign OpenParenthesis) c.args.tokens.now _ c.eat_sign.new.tokens c.eat_sign.ensures.eaten c.if-not-eat_sign.false in
    arguments_read c.args.self.now _ _ _ _ there (rw c.skip_lines.ensures.rest at here))

pub returns-clause-shorter : goal.returns-clause-shorter
returns-clause-shorter c = ok_through c.opened.result c.opened.ensures.shorter (λ x less. omega (arith, less, c.eat_sign.ensures.shorter, c.skip_lines.ensures.shorter))

pub returns-in_err-line_end-clause-begins : goal.returns-in_err-line_end-clause-begins
returns-in_err-line_end-clause-begins c =
    let none = was_missing (TheSign OpenParenthesis) c.args.tokens.now _ c.eat_sign.new.tokens c.eat_sign.ensures.eaten c.if-not-eat_sign.true in
    up_breaks _ c.from_residual.ensures.1 (at_first arguments_sampled (rw none.0 at c.in_err-line_end.ensures.first))

pub returns-clause-begins : goal.returns-clause-begins
returns-clause-begins c = err_through c.opened.result c.opened.ensures.begins (λ e bad.
    let there = was_there (TheSign OpenParenthesis) c.args.tokens.now _ c.eat_sign.new.tokens c.eat_sign.ensures.eaten c.if-not-eat_sign.false in
    (map_breaks (λ x. x) arguments_is (part_loose (sign_fills OpenParenthesis) (record { found = there }) opened_sampled refl (rw c.skip_lines.ensures.rest at bad))))
