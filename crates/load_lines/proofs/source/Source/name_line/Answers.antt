use Rattle.std.proofs.Common.{arith}
use Rattle.il_syntax.specs.Grammar.{tight, TheLineEnd}
use Rattle.load_lines.proofs.Chain.{up, first, later, last_missing}
use Rattle.load_lines.proofs.Through.{ok_both, ok_through, err_through}
use Rattle.il_syntax_laws.proofs.Local.{the_name_local}
use Rattle.il_syntax_laws.proofs.Alike.{tight_gap}
use Rattle.load_lines.proofs.Breaks.{at_first, later_tight, map_breaks, s_tight, up_breaks}
use Rattle.il_syntax_laws.proofs.Samples.{line_end_sampled, the_name_sampled}
use Rattle.load_lines.proofs.Completions.{the_name_filling}
use Rattle.load_lines.proofs.source.Source.name_line.Goals as goal

pub returns-in_err-name-clause-refused : goal.returns-in_err-name-clause-refused
returns-in_err-name-clause-refused c = up _ c.from_residual.ensures.1 (first _ tight (λ text n. TheLineEnd) c.in_err-name.ensures.refused)

pub returns-clause-refused : goal.returns-clause-refused
returns-clause-refused c = err_through c.ended.result c.ended.ensures.misses (λ e bad. later (λ x. x) tight_gap (λ text x. TheLineEnd) the_name_local c.in_ok-name.ensures.reads (last_missing bad))

pub returns-clause-reads : goal.returns-clause-reads
returns-clause-reads c = ok_both c.ended.result c.ended.ensures.value c.ended.ensures.stands
    (λ x same end. record { found = (_, rw same c.in_ok-name.ensures.reads.found, end.found) })

pub returns-clause-shorter : goal.returns-clause-shorter
returns-clause-shorter c = ok_through c.ended.result c.ended.ensures.shorter (λ x less. omega (arith, less, c.in_ok-name.ensures.shorter))

pub returns-in_err-name-clause-begins : goal.returns-in_err-name-clause-begins
returns-in_err-name-clause-begins c =
    up_breaks _ c.from_residual.ensures.1 (map_breaks (λ x. x.0) (λ x other us r w. w) (at_first (s_tight (the_name_sampled) (line_end_sampled)) c.in_err-name.ensures.first))

pub returns-clause-begins : goal.returns-clause-begins
returns-clause-begins c = err_through c.ended.result c.ended.ensures.first (λ e bad.
    (map_breaks (λ x. x.0) (λ x other us r w. w) (later_tight (the_name_filling) c.in_ok-name.ensures.reads (line_end_sampled) (at_first (line_end_sampled) bad))))
