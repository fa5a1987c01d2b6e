use Rattle.il_syntax.specs.declared.token.Sign.TheVariants.{OpenBracket, Dot}
use Rattle.il_syntax.specs.Grammar.{TheSign}
use Rattle.load_lines.proofs.Chain.{up, was_there, was_missing}
use Rattle.load_lines.proofs.Alternatives.{bracket_refused, dot_refused, gap_is}
use Rattle.load_lines.specs.declared.operand.Selector.TheVariants as selector
use Rattle.load_lines.proofs.Breaks.{any_breaks, at_first, map_breaks, up_breaks}
use Rattle.il_syntax_laws.proofs.GoesOn.{any_sampled}
use Rattle.il_syntax_laws.proofs.Samples.{any_word_sampled}
use Rattle.load_lines.proofs.Completions.{element_sampled, part_gap}
use Rattle.std.proofs.Common.{refl}
use Rattle.il_syntax_laws.proofs.Open.{sign_fills}
use Rattle.load_lines.proofs.source.Source.selector.Goals as goal

pub returns-in_err-element-clause-refused : goal.returns-in_err-element-clause-refused
returns-in_err-element-clause-refused c =
    let bracket = was_there (TheSign OpenBracket) c.args.tokens.now _ c.eat_sign.new.tokens c.eat_sign.ensures.eaten c.if-eat_sign.true in
    up _ c.from_residual.ensures.1 (bracket_refused c.args.self.now (gap_is c.args.gap) _ _ _ bracket (rw c.pass.ensures.rest at c.in_err-element.ensures.refused))

pub returns-then-eat_sign-clause-reads : goal.returns-then-eat_sign-clause-reads
returns-then-eat_sign-clause-reads c =
    let bracket = was_there (TheSign OpenBracket) c.args.tokens.now _ c.eat_sign.new.tokens c.eat_sign.ensures.eaten c.if-eat_sign.true in
    record { found = (_, bracket, (rw c.pass.ensures.rest at c.in_ok-element.ensures.reads).found) }

pub returns-in_err-any_word-clause-refused : goal.returns-in_err-any_word-clause-refused
returns-in_err-any_word-clause-refused c =
    let none = was_missing (TheSign OpenBracket) c.args.tokens.now _ c.eat_sign.new.tokens c.eat_sign.ensures.eaten c.if-eat_sign.false in
    let dot = was_there (TheSign Dot) c.eat_sign.new.tokens _ c.eat_sign-2.new.tokens c.eat_sign-2.ensures.eaten c.if-eat_sign-2.true in
    up _ c.from_residual-in_err-any_word.ensures.1 (dot_refused c.args.self.now (gap_is c.args.gap) _ _ _ none.1 (rw none.0 at dot) (rw c.pass-then-eat_sign-2.ensures.rest at c.in_err-any_word.ensures.refused))

pub returns-in_err-element-clause-begins : goal.returns-in_err-element-clause-begins
returns-in_err-element-clause-begins c =
    let bracket = was_there (TheSign OpenBracket) c.args.tokens.now _ c.eat_sign.new.tokens c.eat_sign.ensures.eaten c.if-eat_sign.true in
    up_breaks _ c.from_residual.ensures.1 (map_breaks (λ x. selector.Element x) (λ x other us r w. w) (part_gap c.args.gap (sign_fills OpenBracket) bracket (any_sampled (element_sampled c.args.gap)) refl (any_breaks (rw c.pass.ensures.rest at c.in_err-element.ensures.begins))))

pub returns-in_err-any_word-clause-begins : goal.returns-in_err-any_word-clause-begins
returns-in_err-any_word-clause-begins c =
    let none = was_missing (TheSign OpenBracket) c.args.tokens.now _ c.eat_sign.new.tokens c.eat_sign.ensures.eaten c.if-eat_sign.false in
    let dot = was_there (TheSign Dot) c.eat_sign.new.tokens _ c.eat_sign-2.new.tokens c.eat_sign-2.ensures.eaten c.if-eat_sign-2.true in
    up_breaks _ c.from_residual-in_err-any_word.ensures.1 (map_breaks (λ x. selector.Member x) (λ x other us r w. w)
    (part_gap c.args.gap (sign_fills Dot) (rw none.0 at dot) (any_sampled any_word_sampled) refl (at_first (any_sampled any_word_sampled) (rw c.pass-then-eat_sign-2.ensures.rest at c.in_err-any_word.ensures.first))))
