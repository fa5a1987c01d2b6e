use Rattle.std.proofs.Common.{arith, refl}
use Rattle.il_syntax.specs.Grammar.{tight, TheLineEnd}
use Rattle.load_lines.proofs.Chain.{up, first, later, last_missing}
use Rattle.load_lines.proofs.Through.{ok_both, ok_through, err_through}
use Rattle.il_syntax_laws.proofs.Local.{target_local}
use Rattle.il_syntax_laws.proofs.Alike.{tight_gap}
use Rattle.load_lines.proofs.Breaks.{at_first, first_operand, later_operand, map_breaks, up_breaks}
use Rattle.il_syntax_laws.proofs.Samples.{line_end_sampled}
use Rattle.load_lines.proofs.Completions.{target_filling}
use Rattle.load_lines.proofs.source.Source.target_line.Goals as goal

pub returns-in_err-operand-clause-refused : goal.returns-in_err-operand-clause-refused
returns-in_err-operand-clause-refused c = up _ c.from_residual.ensures.1 (first (λ o. o) tight (λ text o. TheLineEnd) c.in_err-operand.ensures.refused)

pub returns-clause-refused : goal.returns-clause-refused
returns-clause-refused c = err_through c.ended.result c.ended.ensures.misses (λ e bad. later (λ x. x) tight_gap (λ text x. TheLineEnd) target_local c.in_ok-operand.ensures.reads (last_missing bad))

pub returns-clause-reads : goal.returns-clause-reads
returns-clause-reads c = ok_both c.ended.result c.ended.ensures.value c.ended.ensures.stands
    (λ x same end. record { found = (_, rw same c.in_ok-operand.ensures.reads.found, end.found) })

pub returns-clause-shorter : goal.returns-clause-shorter
returns-clause-shorter c = ok_through c.ended.result c.ended.ensures.shorter (λ x less. omega (arith, less, c.in_ok-operand.ensures.shorter))

pub returns-in_err-operand-clause-begins : goal.returns-in_err-operand-clause-begins
returns-in_err-operand-clause-begins c =
    up_breaks _ c.from_residual.ensures.1 (map_breaks (λ x. x.0) (λ x other us r w. w) (first_operand (line_end_sampled) refl c.in_err-operand.ensures.begins))

pub returns-clause-begins : goal.returns-clause-begins
returns-clause-begins c = err_through c.ended.result c.ended.ensures.first (λ e bad.
    (map_breaks (λ x. x.0) (λ x other us r w. w) (later_operand (target_filling) c.in_ok-operand.ensures.reads (line_end_sampled) refl (at_first (line_end_sampled) bad))))
