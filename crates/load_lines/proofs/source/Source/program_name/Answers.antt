use Rattle.std.proofs.Common.{arith, refl}
use Rattle.il_syntax.specs.declared.token.Sign.TheVariants.{Semicolon}
use Rattle.il_syntax.specs.Grammar.{loose, TheSign}
use Rattle.load_lines.proofs.Chain.{up, first, later, last_missing}
use Rattle.load_lines.proofs.Through.{ok_both, ok_through, err_through}
use Rattle.il_syntax_laws.proofs.Local.{the_name_local}
use Rattle.il_syntax_laws.proofs.Alike.{loose_gap}
use Rattle.load_lines.proofs.Breaks.{at_first, later_loose, map_breaks, s_loose, up_breaks}
use Rattle.il_syntax_laws.proofs.Samples.{sign_sampled, the_name_sampled}
use Rattle.load_lines.proofs.Completions.{the_name_filling}
use Rattle.load_lines.proofs.source.Source.program_name.Goals as goal

pub returns-in_err-program-clause-refused : goal.returns-in_err-program-clause-refused
returns-in_err-program-clause-refused c = up _ c.from_residual.ensures.1 (first (λ n. n) loose (λ text n. TheSign Semicolon) c.in_err-program.ensures.refused)

pub returns-clause-refused : goal.returns-clause-refused
returns-clause-refused c = err_through c.closed.result c.closed.ensures.misses (λ e bad.
    (later (λ n. n) loose_gap (λ text n. TheSign Semicolon) the_name_local c.in_ok-program.ensures.reads (last_missing (rw c.skip_lines.ensures.rest at bad))))

pub returns-clause-reads : goal.returns-clause-reads
returns-clause-reads c = ok_both c.closed.result c.closed.ensures.value c.closed.ensures.stands (λ x same end. rw same
    (record { found = (_, c.in_ok-program.ensures.reads.found, (rw c.skip_lines.ensures.rest at end).found) }))

pub returns-clause-shorter : goal.returns-clause-shorter
returns-clause-shorter c = ok_through c.closed.result c.closed.ensures.shorter (λ x less. omega (arith, less, c.in_ok-program.ensures.shorter, c.skip_lines.ensures.shorter))

pub returns-in_err-program-clause-begins : goal.returns-in_err-program-clause-begins
returns-in_err-program-clause-begins c =
    up_breaks _ c.from_residual.ensures.1 (map_breaks (λ x. x.0) (λ x other us r w. w) (at_first (s_loose (the_name_sampled) (sign_sampled Semicolon) refl) c.in_err-program.ensures.first))

pub returns-clause-begins : goal.returns-clause-begins
returns-clause-begins c = err_through c.closed.result c.closed.ensures.first (λ e bad.
    (map_breaks (λ x. x.0) (λ x other us r w. w) (later_loose (the_name_filling) c.in_ok-program.ensures.reads (sign_sampled Semicolon) refl (at_first (sign_sampled Semicolon) (rw c.skip_lines.ensures.rest at bad)))))
