use Rattle.std.proofs.Common.{List, [], ◌∷◌, arith, refl}
use Rattle.il_syntax.specs.declared.token.Token.{Token}
use Rattle.il_syntax.specs.declared.token.Sign.TheVariants.{Comma}
use Rattle.il_syntax.specs.Grammar.{tight, TheSign, TheLineEnd}
use Rattle.load_lines.proofs.Chain.{up, list_starts, list_goes_on, list_item_refused, list_end_refused, list_ended, was_there, was_missing}
use Rattle.load_lines.proofs.Through.{ok_both, ok_through, err_through}
use Rattle.il_syntax_laws.proofs.Local.{operand_local}
use Rattle.il_syntax_laws.proofs.Alike.{tight_gap}
use Rattle.load_lines.proofs.Completions.{operand_filling, at_list_end, list_item_breaks}
use Rattle.il_syntax_laws.proofs.GoesOn.{tight_cut, reach_tight, any_sampled, passes_calm, stays_tight}
use Rattle.il_syntax_laws.proofs.Samples.{line_end_sampled, operand_sampled}
use Rattle.load_lines.proofs.Breaks.{up_breaks}
use Rattle.load_lines.proofs.source.Source.some_operands.Goals as goal

apart : (r s ts : List Token) → TheLineEnd ts r → TheSign Comma ts s → ⊥
apart r s [] p q = p
apart r s (t ∷ ts) p q = cc (p.0, q.0)

pub operands-init : goal.operands-init
operands-init c = (omega arith, rw c.new-operands.ensures (list_starts tight_gap _ _ _ _))

pub returns-in_err-operand-clause-refused : goal.returns-in_err-operand-clause-refused
returns-in_err-operand-clause-refused c = up _ c.from_residual.ensures.1 (list_item_refused tight_gap _ _ _ _ _ _ _ c.operands.invariant.1 c.in_err-operand.ensures.refused)

pub operands-preserved : goal.operands-preserved
operands-preserved c =
    let comma = was_there (TheSign Comma) _ _ c.eat_sign.new.tokens c.eat_sign.ensures.eaten c.if-not-eat_sign.false in (
      omega (arith, c.operands.invariant.0, c.in_ok-operand.ensures.shorter, c.eat_sign.ensures.shorter),
      rw c.in_ok-push.ensures.ok (list_goes_on tight_gap _ _ _ tight_cut (reach_tight tight_cut) operand_filling (operand_local tight_gap) (λ other. apart) _ _ _ _ _ _ c.operands.invariant.1 c.in_ok-operand.ensures.reads comma),
    )

pub returns-then-not-eat_sign-clause-refused : goal.returns-then-not-eat_sign-clause-refused
returns-then-not-eat_sign-clause-refused c =
    let none = was_missing (TheSign Comma) _ _ c.eat_sign.new.tokens c.eat_sign.ensures.eaten c.if-not-eat_sign.true in
    err_through c.ended.result c.ended.ensures.misses (λ e bad.
    (list_end_refused tight_gap _ _ _ (operand_local tight_gap) _ _ _ _ _ _ c.operands.invariant.1 c.in_ok-operand.ensures.reads none.1 (rw none.0 at bad)))

pub returns-then-not-eat_sign-clause-reads : goal.returns-then-not-eat_sign-clause-reads
returns-then-not-eat_sign-clause-reads c =
    let none = was_missing (TheSign Comma) _ _ c.eat_sign.new.tokens c.eat_sign.ensures.eaten c.if-not-eat_sign.true in
    ok_both c.ended.result c.ended.ensures.value c.ended.ensures.stands (λ x same end.
    rw (same, c.in_ok-push.ensures.ok) (list_ended tight_gap _ _ _ _ _ _ _ _ _ c.operands.invariant.1 c.in_ok-operand.ensures.reads (rw none.0 at end)))

pub returns-then-not-eat_sign-clause-shorter : goal.returns-then-not-eat_sign-clause-shorter
returns-then-not-eat_sign-clause-shorter c = ok_through c.ended.result c.ended.ensures.shorter (λ x less. omega (arith, less, c.operands.invariant.0, c.in_ok-operand.ensures.shorter, c.eat_sign.ensures.shorter))

pub returns-in_err-operand-clause-begins : goal.returns-in_err-operand-clause-begins
returns-in_err-operand-clause-begins c = up_breaks _ c.from_residual.ensures.1 (list_item_breaks (any_sampled (operand_sampled tight)) line_end_sampled (passes_calm refl) stays_tight stays_tight c.operands.invariant.1 c.in_err-operand.ensures.begins)

pub returns-then-not-eat_sign-clause-begins : goal.returns-then-not-eat_sign-clause-begins
returns-then-not-eat_sign-clause-begins c =
    let none = was_missing (TheSign Comma) c.operand.new.tokens _ c.eat_sign.new.tokens c.eat_sign.ensures.eaten c.if-not-eat_sign.true in
    err_through c.ended.result c.ended.ensures.first (λ e bad.
    (at_list_end tight_cut (reach_tight tight_cut) operand_filling line_end_sampled (passes_calm refl) stays_tight c.operands.invariant.1 c.in_ok-operand.ensures.reads (rw none.0 at bad)))
