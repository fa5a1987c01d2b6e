use Rattle.std.proofs.Common.{arith, refl}
use Rattle.il_syntax.specs.declared.token.Sign.TheVariants.{Assign, Arrow}
use Rattle.il_syntax.specs.Grammar.{loose, TheSign, TheName}
use Rattle.load_lines.proofs.Chain.{up, was_there, was_missing, first_missing, behind}
use Rattle.load_lines.proofs.Alternatives.{input_refused, output_refused}
use Rattle.il_syntax_laws.proofs.Local.{sign_local}
use Rattle.il_syntax_laws.proofs.Alike.{loose_gap}
use Rattle.load_lines.specs.declared.operand.Passed.TheVariants as passed
use Rattle.load_lines.proofs.Completions.{any_passed_sampled}
use Rattle.il_syntax_laws.proofs.GoesOn.{any_sampled}
use Rattle.load_lines.proofs.Breaks.{at_first, map_breaks, part_loose, up_breaks}
use Rattle.il_syntax_laws.proofs.Samples.{operand_sampled, the_name_sampled}
use Rattle.il_syntax_laws.proofs.Open.{sign_fills}
use Rattle.load_lines.proofs.source.Source.passed.Goals as goal

pub returns-in_err-operand-clause-refused : goal.returns-in_err-operand-clause-refused
returns-in_err-operand-clause-refused c =
    let assign = was_there (TheSign Assign) c.args.tokens.now _ c.eat_sign.new.tokens c.eat_sign.ensures.eaten c.if-eat_sign.true in
    up _ c.from_residual.ensures.1 (input_refused c.args.self.now _ _ _ assign (rw c.skip_lines.ensures.rest at c.in_err-operand.ensures.refused))

pub returns-in_err-sign-clause-refused : goal.returns-in_err-sign-clause-refused
returns-in_err-sign-clause-refused c =
    let none = was_missing (TheSign Assign) c.args.tokens.now _ c.eat_sign.new.tokens c.eat_sign.ensures.eaten c.if-eat_sign.false in
    up _ c.from_residual-in_err-sign.ensures.1 (output_refused c.args.self.now _ _ none.1 (first_missing loose (λ text t. TheName text t) (rw none.0 at c.in_err-sign.ensures.refused)))

pub returns-in_err-named-clause-refused : goal.returns-in_err-named-clause-refused
returns-in_err-named-clause-refused c =
    let none = was_missing (TheSign Assign) c.args.tokens.now _ c.eat_sign.new.tokens c.eat_sign.ensures.eaten c.if-eat_sign.false in
    up _ c.from_residual-in_err-named.ensures.1 (output_refused c.args.self.now _ _ none.1
    (behind loose_gap (λ text t. TheName text t) (sign_local Arrow) (rw none.0 at c.in_ok-sign.ensures.reads) (rw c.skip_lines-2.ensures.rest at c.in_err-named.ensures.refused)))

pub returns-clause-reads : goal.returns-clause-reads
returns-clause-reads c =
    let none = was_missing (TheSign Assign) c.args.tokens.now _ c.eat_sign.new.tokens c.eat_sign.ensures.eaten c.if-eat_sign.false in
    record { found = (_, (rw none.0 at c.in_ok-sign.ensures.reads).found, (rw c.skip_lines-2.ensures.rest at c.in_ok-named.ensures.reads).found) }

pub returns-clause-shorter : goal.returns-clause-shorter
returns-clause-shorter c = omega (arith, c.eat_sign.ensures.shorter, c.in_ok-sign.ensures.shorter, c.skip_lines-2.ensures.shorter, c.in_ok-named.ensures.shorter)

pub returns-in_err-operand-clause-begins : goal.returns-in_err-operand-clause-begins
returns-in_err-operand-clause-begins c =
    let assign = was_there (TheSign Assign) c.args.tokens.now _ c.eat_sign.new.tokens c.eat_sign.ensures.eaten c.if-eat_sign.true in
    up_breaks _ c.from_residual.ensures.1 (map_breaks (λ x. passed.Input x) (λ x other us r w. w) (part_loose (sign_fills Assign) (record { found = assign }) (any_sampled (operand_sampled loose)) refl (rw c.skip_lines.ensures.rest at c.in_err-operand.ensures.begins)))

pub returns-in_err-sign-clause-begins : goal.returns-in_err-sign-clause-begins
returns-in_err-sign-clause-begins c =
    let none = was_missing (TheSign Assign) c.args.tokens.now _ c.eat_sign.new.tokens c.eat_sign.ensures.eaten c.if-eat_sign.false in
    up_breaks _ c.from_residual-in_err-sign.ensures.1 (at_first any_passed_sampled (rw none.0 at c.in_err-sign.ensures.first))

pub returns-in_err-named-clause-begins : goal.returns-in_err-named-clause-begins
returns-in_err-named-clause-begins c =
    let none = was_missing (TheSign Assign) c.args.tokens.now _ c.eat_sign.new.tokens c.eat_sign.ensures.eaten c.if-eat_sign.false in
    up_breaks _ c.from_residual-in_err-named.ensures.1 (map_breaks (λ x. passed.Output x) (λ x other us r w. w)
    (part_loose (sign_fills Arrow) (rw none.0 at c.in_ok-sign.ensures.reads) (any_sampled the_name_sampled) refl (at_first (any_sampled the_name_sampled) (rw c.skip_lines-2.ensures.rest at c.in_err-named.ensures.first))))
