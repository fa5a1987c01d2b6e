use Rattle.std.proofs.Common.{List, [], ◌∷◌, arith, refl}
use Rattle.il_syntax.specs.declared.token.Token.{Token}
use Rattle.il_syntax.specs.declared.token.Sign.TheVariants.{Comma, Colon}
use Rattle.il_syntax.specs.Grammar.{TheSign}
use Rattle.load_lines.proofs.Chain.{up, list_starts, list_goes_on, list_item_refused, list_end_refused, list_ended, was_there, was_missing}
use Rattle.load_lines.proofs.Through.{ok_both, ok_through, err_through}
use Rattle.il_syntax_laws.proofs.Local.{the_name_local}
use Rattle.il_syntax_laws.proofs.Alike.{loose_gap}
use Rattle.load_lines.proofs.Completions.{the_name_filling, at_item, at_list_end}
use Rattle.il_syntax_laws.proofs.GoesOn.{loose_cut, reach_tight, passes_always, stays_loose}
use Rattle.il_syntax_laws.proofs.Samples.{sign_sampled, the_name_sampled}
use Rattle.load_lines.proofs.Breaks.{up_breaks}
use Rattle.load_lines.proofs.source.Source.names.Goals as goal

apart : (r s ts : List Token) → TheSign Colon ts r → TheSign Comma ts s → ⊥
apart r s [] p q = p
apart r s (t ∷ ts) p q = cc (p.0, q.0)

pub names-init : goal.names-init
names-init c = (omega arith, rw c.new-names.ensures (list_starts loose_gap _ _ _ _))

pub returns-in_err-name-clause-refused : goal.returns-in_err-name-clause-refused
returns-in_err-name-clause-refused c = up _ c.from_residual.ensures.1 (list_item_refused loose_gap _ _ _ _ _ _ _ c.names.invariant.1 c.in_err-name.ensures.refused)

pub names-preserved : goal.names-preserved
names-preserved c =
    let comma = was_there (TheSign Comma) c.skip_lines.new.self _ c.eat_sign.new.tokens c.eat_sign.ensures.eaten c.if-not-eat_sign.false in (
      omega (arith, c.names.invariant.0, c.in_ok-name.ensures.shorter, c.skip_lines.ensures.shorter, c.eat_sign.ensures.shorter, c.skip_lines-in-names.ensures.shorter),
      rw (c.skip_lines-in-names.ensures.rest, c.in_ok-push.ensures.ok)
          (list_goes_on loose_gap _ _ _ loose_cut (reach_tight loose_cut) the_name_filling the_name_local (λ other. apart) _ _ _ _ _ _ c.names.invariant.1 c.in_ok-name.ensures.reads (rw c.skip_lines.ensures.rest at comma)),
    )

pub returns-then-not-eat_sign-clause-refused : goal.returns-then-not-eat_sign-clause-refused
returns-then-not-eat_sign-clause-refused c =
    let none = was_missing (TheSign Comma) c.skip_lines.new.self _ c.eat_sign.new.tokens c.eat_sign.ensures.eaten c.if-not-eat_sign.true in
    err_through c.closed.result c.closed.ensures.misses (λ e bad.
    (list_end_refused loose_gap _ _ _ the_name_local _ _ _ _ _ _ c.names.invariant.1 c.in_ok-name.ensures.reads (rw c.skip_lines.ensures.rest at none.1) (rw c.skip_lines.ensures.rest at (rw none.0 at bad))))

pub returns-then-not-eat_sign-clause-reads : goal.returns-then-not-eat_sign-clause-reads
returns-then-not-eat_sign-clause-reads c =
    let none = was_missing (TheSign Comma) c.skip_lines.new.self _ c.eat_sign.new.tokens c.eat_sign.ensures.eaten c.if-not-eat_sign.true in
    ok_both c.closed.result c.closed.ensures.value c.closed.ensures.stands (λ x same end.
    rw (same, c.in_ok-push.ensures.ok) (list_ended loose_gap _ _ _ _ _ _ _ _ _ c.names.invariant.1 c.in_ok-name.ensures.reads (rw c.skip_lines.ensures.rest at (rw none.0 at end))))

pub returns-then-not-eat_sign-clause-shorter : goal.returns-then-not-eat_sign-clause-shorter
returns-then-not-eat_sign-clause-shorter c = ok_through c.closed.result c.closed.ensures.shorter (λ x less. omega (arith, less, c.names.invariant.0, c.in_ok-name.ensures.shorter, c.eat_sign.ensures.shorter, c.skip_lines.ensures.shorter))

pub returns-in_err-name-clause-begins : goal.returns-in_err-name-clause-begins
returns-in_err-name-clause-begins c = up_breaks _ c.from_residual.ensures.1 (at_item the_name_sampled (sign_sampled Colon) passes_always (stays_loose refl) (stays_loose refl) c.names.invariant.1 c.in_err-name.ensures.first)

pub returns-then-not-eat_sign-clause-begins : goal.returns-then-not-eat_sign-clause-begins
returns-then-not-eat_sign-clause-begins c =
    let none = was_missing (TheSign Comma) c.skip_lines.new.self _ c.eat_sign.new.tokens c.eat_sign.ensures.eaten c.if-not-eat_sign.true in
    err_through c.closed.result c.closed.ensures.first (λ e bad.
    (at_list_end loose_cut (reach_tight loose_cut) the_name_filling (sign_sampled Colon) passes_always (stays_loose refl) c.names.invariant.1 c.in_ok-name.ensures.reads (rw c.skip_lines.ensures.rest at (rw none.0 at bad))))
