use Rattle.std.proofs.Common.{arith, refl}
use Rattle.il_syntax.specs.declared.keyword.Keyword.TheVariants as word
use Rattle.il_syntax.specs.Grammar.{loose}
use Rattle.load_lines.specs.Settings.{SpellsBound}
use Rattle.load_lines.proofs.Chain.{up, first_missing, behind}
use Rattle.load_lines.proofs.Through.{ok_through, err_through}
use Rattle.il_syntax_laws.proofs.Local.{word_local}
use Rattle.il_syntax_laws.proofs.Alike.{loose_gap}
use Rattle.load_lines.proofs.Breaks.{at_first, map_breaks, part_loose, s_part, up_breaks}
use Rattle.load_lines.proofs.Completions.{bound_sampled}
use Rattle.il_syntax_laws.proofs.Open.{word_fills}
use Rattle.il_syntax_laws.proofs.Samples.{word_sampled}
use Rattle.load_lines.proofs.source.Source.binding.Goals as goal

pub returns-in_err-word-clause-refused : goal.returns-in_err-word-clause-refused
returns-in_err-word-clause-refused c =
    up _ c.from_residual.ensures.1
    (first_missing loose (λ text b. SpellsBound text b) c.in_err-word.ensures.refused)

pub returns-clause-refused : goal.returns-clause-refused
returns-clause-refused c = err_through c.bound.result c.bound.ensures.refused (λ e bad.
    (behind loose_gap (λ text b. SpellsBound text b) (word_local word.With) c.in_ok-word.ensures.reads
    (rw c.skip_lines.ensures.rest at bad)))

pub returns-clause-reads : goal.returns-clause-reads
returns-clause-reads c = ok_through c.bound.result c.bound.ensures.reads (λ x here.
    record { found = (_, c.in_ok-word.ensures.reads.found, (rw c.skip_lines.ensures.rest at here).found) })

pub returns-clause-shorter : goal.returns-clause-shorter
returns-clause-shorter c = ok_through c.bound.result c.bound.ensures.shorter (λ x less. omega (arith, less, c.in_ok-word.ensures.shorter, c.skip_lines.ensures.shorter))

pub returns-in_err-word-clause-begins : goal.returns-in_err-word-clause-begins
returns-in_err-word-clause-begins c =
    up_breaks _ c.from_residual.ensures.1 (map_breaks (λ x. x) (λ x other us r w. w) (at_first (s_part (word_sampled word.With) (bound_sampled) refl) c.in_err-word.ensures.first))

pub returns-clause-begins : goal.returns-clause-begins
returns-clause-begins c = err_through c.bound.result c.bound.ensures.begins (λ e bad.
    (map_breaks (λ x. x) (λ x other us r w. w) (part_loose (word_fills word.With) c.in_ok-word.ensures.reads (bound_sampled) refl (rw c.skip_lines.ensures.rest at bad))))
