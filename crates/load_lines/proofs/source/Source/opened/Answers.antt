use Rattle.std.proofs.Common.{arith, []}
use Rattle.il_syntax.specs.declared.token.Sign.TheVariants.{CloseParenthesis}
use Rattle.il_syntax.specs.Grammar.{TheSign}
use Rattle.load_lines.proofs.Chain.{up, was_there, was_missing}
use Rattle.load_lines.proofs.Instructions.{closed_refused, inside_refused, unended_refused, inside_read}
use Rattle.load_lines.proofs.Through.{ok_both, ok_through, err_through}
use Rattle.load_lines.proofs.Breaks.{at_first, first_tight, later_tight, map_breaks, part_tight, up_breaks}
use Rattle.load_lines.proofs.Completions.{inside_filling, opened_is}
use Rattle.il_syntax_laws.proofs.Samples.{line_end_sampled}
use Rattle.il_syntax_laws.proofs.Open.{sign_fills}
use Rattle.load_lines.specs.Reads.{SpellsOpened}
use Rattle.load_lines.proofs.source.Source.opened.Goals as goal

pub returns-in_err-line_end-clause-refused : goal.returns-in_err-line_end-clause-refused
returns-in_err-line_end-clause-refused c =
    let close = was_there (TheSign CloseParenthesis) c.args.tokens.now _ c.eat_sign.new.tokens c.eat_sign.ensures.eaten c.if-eat_sign.true in
    up _ c.from_residual.ensures.1 (closed_refused c.args.self.now _ _ _ close c.in_err-line_end.ensures.refused)

pub returns-in_err-arguments-clause-refused : goal.returns-in_err-arguments-clause-refused
returns-in_err-arguments-clause-refused c =
    let none = was_missing (TheSign CloseParenthesis) c.args.tokens.now _ c.eat_sign.new.tokens c.eat_sign.ensures.eaten c.if-eat_sign.false in
    up _ c.from_residual-in_err-arguments.ensures.1 (inside_refused c.args.self.now _ _ none.1 (rw none.0 at c.in_err-arguments.ensures.refused))

pub returns-clause-refused : goal.returns-clause-refused
returns-clause-refused c = err_through c.ended.result c.ended.ensures.misses (λ e bad.
    let none = was_missing (TheSign CloseParenthesis) c.args.tokens.now _ c.eat_sign.new.tokens c.eat_sign.ensures.eaten c.if-eat_sign.false in
    (unended_refused c.args.self.now _ _ _ _ none.1 (rw none.0 at c.in_ok-arguments.ensures.reads) bad))

pub returns-clause-reads : goal.returns-clause-reads
returns-clause-reads c = ok_both c.ended.result c.ended.ensures.value c.ended.ensures.stands (λ x same end. rw same
    (let none = was_missing (TheSign CloseParenthesis) c.args.tokens.now _ c.eat_sign.new.tokens c.eat_sign.ensures.eaten c.if-eat_sign.false in
    inside_read c.args.self.now _ _ _ _ (rw (none.0) at c.in_ok-arguments.ensures.reads) end))

pub returns-clause-shorter : goal.returns-clause-shorter
returns-clause-shorter c = ok_through c.ended.result c.ended.ensures.shorter (λ x less. omega (arith, less, c.eat_sign.ensures.shorter, c.in_ok-arguments.ensures.shorter))

pub returns-in_err-line_end-clause-begins : goal.returns-in_err-line_end-clause-begins
returns-in_err-line_end-clause-begins c =
    let close = was_there (TheSign CloseParenthesis) c.args.tokens.now _ c.eat_sign.new.tokens c.eat_sign.ensures.eaten c.if-eat_sign.true in
    up_breaks _ c.from_residual.ensures.1 (map_breaks {Q = SpellsOpened} (λ x. []) (λ x other us r w. w) (part_tight (sign_fills CloseParenthesis) (record { found = close }) line_end_sampled (at_first line_end_sampled c.in_err-line_end.ensures.first)))

pub returns-in_err-arguments-clause-begins : goal.returns-in_err-arguments-clause-begins
returns-in_err-arguments-clause-begins c =
    let none = was_missing (TheSign CloseParenthesis) c.args.tokens.now _ c.eat_sign.new.tokens c.eat_sign.ensures.eaten c.if-eat_sign.false in
    up_breaks _ c.from_residual-in_err-arguments.ensures.1 (map_breaks (λ x. x.0) (λ x. opened_is x.0) (first_tight line_end_sampled (rw none.0 at c.in_err-arguments.ensures.begins)))

pub returns-clause-begins : goal.returns-clause-begins
returns-clause-begins c = err_through c.ended.result c.ended.ensures.first (λ e bad.
    let none = was_missing (TheSign CloseParenthesis) c.args.tokens.now _ c.eat_sign.new.tokens c.eat_sign.ensures.eaten c.if-eat_sign.false in
    (map_breaks (λ x. x.0) (λ x. opened_is x.0) (later_tight inside_filling (rw none.0 at c.in_ok-arguments.ensures.reads) line_end_sampled (at_first line_end_sampled bad))))
