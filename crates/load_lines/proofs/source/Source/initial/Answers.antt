use Rattle.il_syntax.specs.declared.token.Sign.TheVariants.{Assign, Semicolon}
use Rattle.il_syntax.specs.Grammar.{loose, TheSign, SpellsInitial}
use Rattle.load_lines.specs.Reads.{SpellsValue}
use Rattle.load_lines.proofs.Chain.{up, first_missing, behind, part, some_refused, was_missing}
use Rattle.il_syntax_laws.proofs.Local.{sign_told, sign_local}
use Rattle.il_syntax_laws.proofs.Alike.{loose_gap}
use Rattle.std.proofs.Common.{Some, refl}
use Rattle.load_lines.proofs.Breaks.{at_first, map_breaks, part_loose, up_breaks}
use Rattle.il_syntax_laws.proofs.Samples.{initial_sampled, value_sampled}
use Rattle.il_syntax_laws.proofs.Open.{sign_fills}
use Rattle.load_lines.proofs.source.Source.initial.Goals as goal

pub returns-in_err-sign-clause-refused : goal.returns-in_err-sign-clause-refused
returns-in_err-sign-clause-refused c =
    let none = was_missing (TheSign Semicolon) c.args.tokens.now _ c.eat_sign.new.tokens c.eat_sign.ensures.eaten c.if-eat_sign.false in
    up _ c.from_residual.ensures.1 (some_refused {P = SpellsInitial} (sign_told Semicolon) none.1 (first_missing loose (λ text i. SpellsValue text i) (rw none.0 at c.in_err-sign.ensures.refused)))

pub returns-in_err-value-clause-refused : goal.returns-in_err-value-clause-refused
returns-in_err-value-clause-refused c =
    let none = was_missing (TheSign Semicolon) c.args.tokens.now _ c.eat_sign.new.tokens c.eat_sign.ensures.eaten c.if-eat_sign.false in
    up _ c.from_residual-in_err-value.ensures.1 (some_refused {P = SpellsInitial} (sign_told Semicolon) none.1
    (behind loose_gap (λ text i. SpellsValue text i) (sign_local Assign) (rw none.0 at c.in_ok-sign.ensures.reads) (part (λ i. i) (rw c.skip_lines.ensures.rest at c.in_err-value.ensures.refused))))

pub returns-in_err-sign-clause-begins : goal.returns-in_err-sign-clause-begins
returns-in_err-sign-clause-begins c =
    let none = was_missing (TheSign Semicolon) c.args.tokens.now _ c.eat_sign.new.tokens c.eat_sign.ensures.eaten c.if-eat_sign.false in
    up_breaks _ c.from_residual.ensures.1 (at_first initial_sampled (rw none.0 at c.in_err-sign.ensures.first))

pub returns-in_err-value-clause-begins : goal.returns-in_err-value-clause-begins
returns-in_err-value-clause-begins c =
    let none = was_missing (TheSign Semicolon) c.args.tokens.now _ c.eat_sign.new.tokens c.eat_sign.ensures.eaten c.if-eat_sign.false in
    up_breaks _ c.from_residual-in_err-value.ensures.1 (map_breaks (λ x. Some x) (λ x other us r w. w)
    (part_loose (sign_fills Assign) (rw none.0 at c.in_ok-sign.ensures.reads) value_sampled refl (rw c.skip_lines.ensures.rest at c.in_err-value.ensures.begins)))
