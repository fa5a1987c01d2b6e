use Rattle.std.proofs.Common.{arith, refl}
use Rattle.il_syntax.specs.declared.token.Sign.TheVariants.{Range, OpenParenthesis, CloseParenthesis}
use Rattle.il_syntax.specs.Grammar.{loose, ◌⋯◌, TheSign, ANumber}
use Rattle.load_lines.proofs.Chain.{up, first, later, first_missing, last_missing, behind}
use Rattle.load_lines.proofs.Alternatives.{range_refused, range_local}
use Rattle.load_lines.proofs.Through.{ok_both, ok_through, err_through}
use Rattle.il_syntax_laws.proofs.Local.{sign_local}
use Rattle.il_syntax_laws.proofs.Alike.{loose_gap}
use Rattle.load_lines.proofs.Breaks.{at_first, first_loose, later_loose, map_breaks, part_loose, s_loose, s_part, up_breaks}
use Rattle.load_lines.proofs.Completions.{range_filling, range_sampled}
use Rattle.il_syntax_laws.proofs.Open.{sign_fills}
use Rattle.il_syntax_laws.proofs.Samples.{sign_sampled}
use Rattle.load_lines.proofs.source.Source.limits.Goals as goal

pub returns-in_err-sign-clause-refused : goal.returns-in_err-sign-clause-refused
returns-in_err-sign-clause-refused c =
    up _ c.from_residual.ensures.1 (first_missing loose (λ text s. ANumber s.lower ⋯ TheSign Range ⋯ ANumber s.upper ⋯ TheSign CloseParenthesis) c.in_err-sign.ensures.refused)

pub returns-in_err-limits-clause-refused : goal.returns-in_err-limits-clause-refused
returns-in_err-limits-clause-refused c =
    up _ c.from_residual-in_err-limits.ensures.1
    (behind loose_gap (λ text s. ANumber s.lower ⋯ TheSign Range ⋯ ANumber s.upper ⋯ TheSign CloseParenthesis) (sign_local OpenParenthesis) c.in_ok-sign.ensures.reads
    (range_refused (λ s. s) (λ text s. TheSign CloseParenthesis) (first (λ s. s) loose (λ text s. TheSign CloseParenthesis) (rw c.skip_lines.ensures.rest at c.in_err-limits.ensures.refused))))

pub returns-clause-refused : goal.returns-clause-refused
returns-clause-refused c = err_through c.closed.result c.closed.ensures.misses (λ e bad.
    (behind loose_gap (λ text s. ANumber s.lower ⋯ TheSign Range ⋯ ANumber s.upper ⋯ TheSign CloseParenthesis) (sign_local OpenParenthesis) c.in_ok-sign.ensures.reads
    (range_refused (λ s. s) (λ text s. TheSign CloseParenthesis)
    (later (λ s. s) loose_gap (λ text s. TheSign CloseParenthesis) range_local (rw c.skip_lines.ensures.rest at c.in_ok-limits.ensures.reads) (last_missing (rw c.skip_lines-2.ensures.rest at bad))))))

pub returns-clause-reads : goal.returns-clause-reads
returns-clause-reads c = ok_both c.closed.result c.closed.ensures.value c.closed.ensures.stands (λ x same end. rw same
    (let r = (rw (c.skip_lines.ensures.rest) at c.in_ok-limits.ensures.reads).found in
    record { found = (_, c.in_ok-sign.ensures.reads.found, (r.0, r.1, (r.2.0, r.2.1, (_, r.2.2, (rw c.skip_lines-2.ensures.rest at end).found)))) }))

pub returns-clause-shorter : goal.returns-clause-shorter
returns-clause-shorter c = ok_through c.closed.result c.closed.ensures.shorter (λ x less. omega (arith, less, c.in_ok-sign.ensures.shorter, c.skip_lines.ensures.shorter, c.in_ok-limits.ensures.shorter, c.skip_lines-2.ensures.shorter))

pub returns-in_err-sign-clause-begins : goal.returns-in_err-sign-clause-begins
returns-in_err-sign-clause-begins c =
    up_breaks _ c.from_residual.ensures.1 (map_breaks (λ x. x.0) (λ x other us r w. (w.0, w.1, (w.2.1.0, w.2.1.1, (w.2.1.2.0, w.2.1.2.1, (w.2.0, w.2.1.2.2, w.2.2))))) (at_first (s_part (sign_sampled OpenParenthesis) (s_loose (range_sampled) (sign_sampled CloseParenthesis) refl) refl) c.in_err-sign.ensures.first))

pub returns-in_err-limits-clause-begins : goal.returns-in_err-limits-clause-begins
returns-in_err-limits-clause-begins c =
    up_breaks _ c.from_residual-in_err-limits.ensures.1 (map_breaks (λ x. x.0) (λ x other us r w. (w.0, w.1, (w.2.1.0, w.2.1.1, (w.2.1.2.0, w.2.1.2.1, (w.2.0, w.2.1.2.2, w.2.2))))) (part_loose (sign_fills OpenParenthesis) c.in_ok-sign.ensures.reads (s_loose (range_sampled) (sign_sampled CloseParenthesis) refl) refl (first_loose (sign_sampled CloseParenthesis) refl (rw c.skip_lines.ensures.rest at c.in_err-limits.ensures.begins))))

pub returns-clause-begins : goal.returns-clause-begins
returns-clause-begins c = err_through c.closed.result c.closed.ensures.first (λ e bad.
    (map_breaks (λ x. x.0) (λ x other us r w. (w.0, w.1, (w.2.1.0, w.2.1.1, (w.2.1.2.0, w.2.1.2.1, (w.2.0, w.2.1.2.2, w.2.2))))) (part_loose (sign_fills OpenParenthesis) c.in_ok-sign.ensures.reads (s_loose (range_sampled) (sign_sampled CloseParenthesis) refl) refl (later_loose (range_filling) (rw c.skip_lines.ensures.rest at c.in_ok-limits.ensures.reads) (sign_sampled CloseParenthesis) refl (at_first (sign_sampled CloseParenthesis) (rw c.skip_lines-2.ensures.rest at bad))))))
