use Rattle.std.proofs.Common.{arith, codes, inl, inr, refl}
use Rattle.il_syntax.specs.declared.keyword.Keyword.TheVariants as word
use Rattle.il_syntax.specs.Grammar.{loose, ◌⋯◌, TheWord, SpellsSize}
use Rattle.load_lines.proofs.Chain.{up, first, last_missing, later}
use Rattle.il_syntax_laws.proofs.Local.{size_local}
use Rattle.il_syntax_laws.proofs.Alike.{loose_gap}
use Rattle.load_lines.proofs.Completions.{a_size_sampled, size_filling}
use Rattle.load_lines.proofs.Breaks.{at_first, first_loose, later_loose, map_breaks, s_loose, up_breaks}
use Rattle.il_syntax_laws.proofs.Samples.{word_sampled}
use Rattle.load_lines.proofs.source.Source.floors.Goals as goal

pub returns-in_err-floors-clause-refused : goal.returns-in_err-floors-clause-refused
returns-in_err-floors-clause-refused c =
    up _ c.from_residual.ensures.1
    (first (λ b. b.0) loose (λ text b. SpellsSize text (codes "SLOTS") b.1 ⋯ TheWord text word.EndVar) c.in_err-floors.ensures.refused)

pub returns-in_err-slots-clause-refused : goal.returns-in_err-slots-clause-refused
returns-in_err-slots-clause-refused c =
    up _ c.from_residual-in_err-slots.ensures.1
    (later (λ b. b.0) loose_gap (λ text b. SpellsSize text (codes "SLOTS") b.1 ⋯ TheWord text word.EndVar) (size_local (codes "FLOORS")) c.in_ok-floors.ensures.reads
    (first (λ b. b.1) loose (λ text b. TheWord text word.EndVar) (rw c.skip_lines.ensures.rest at c.in_err-slots.ensures.refused)))

pub returns-in_err-word-clause-refused : goal.returns-in_err-word-clause-refused
returns-in_err-word-clause-refused c =
    up _ c.from_residual-in_err-word.ensures.1
    (later (λ b. b.0) loose_gap (λ text b. SpellsSize text (codes "SLOTS") b.1 ⋯ TheWord text word.EndVar) (size_local (codes "FLOORS")) c.in_ok-floors.ensures.reads
    (later (λ b. b.1) loose_gap (λ text b. TheWord text word.EndVar) (size_local (codes "SLOTS")) (rw c.skip_lines.ensures.rest at c.in_ok-slots.ensures.reads)
    (last_missing (rw c.skip_lines-2.ensures.rest at c.in_err-word.ensures.refused))))

pub returns-clause-reads : goal.returns-clause-reads
returns-clause-reads c = record { found = (_, c.in_ok-floors.ensures.reads.found, (_, (rw c.skip_lines.ensures.rest at c.in_ok-slots.ensures.reads).found, (rw c.skip_lines-2.ensures.rest at c.in_ok-word.ensures.reads).found)) }

pub returns-clause-shorter : goal.returns-clause-shorter
returns-clause-shorter c = omega (arith, c.in_ok-floors.ensures.shorter, c.skip_lines.ensures.shorter, c.in_ok-slots.ensures.shorter, c.skip_lines-2.ensures.shorter, c.in_ok-word.ensures.shorter)

pub returns-in_err-floors-clause-begins : goal.returns-in_err-floors-clause-begins
returns-in_err-floors-clause-begins c =
    up_breaks _ c.from_residual.ensures.1 (map_breaks (λ x. (x.0, x.1.0)) (λ x other us r w. w) (first_loose (s_loose (a_size_sampled (codes "SLOTS") (inr (inr refl))) (word_sampled word.EndVar) refl) refl (c.in_err-floors.ensures.begins (inr (inl refl)))))

pub returns-in_err-slots-clause-begins : goal.returns-in_err-slots-clause-begins
returns-in_err-slots-clause-begins c =
    up_breaks _ c.from_residual-in_err-slots.ensures.1 (map_breaks (λ x. (x.0, x.1.0)) (λ x other us r w. w) (later_loose (size_filling (codes "FLOORS")) c.in_ok-floors.ensures.reads (s_loose (a_size_sampled (codes "SLOTS") (inr (inr refl))) (word_sampled word.EndVar) refl) refl (first_loose (word_sampled word.EndVar) refl (rw c.skip_lines.ensures.rest at (c.in_err-slots.ensures.begins (inr (inr refl)))))))

pub returns-in_err-word-clause-begins : goal.returns-in_err-word-clause-begins
returns-in_err-word-clause-begins c =
    up_breaks _ c.from_residual-in_err-word.ensures.1 (map_breaks (λ x. (x.0, x.1.0)) (λ x other us r w. w) (later_loose (size_filling (codes "FLOORS")) c.in_ok-floors.ensures.reads (s_loose (a_size_sampled (codes "SLOTS") (inr (inr refl))) (word_sampled word.EndVar) refl) refl (later_loose (size_filling (codes "SLOTS")) (rw c.skip_lines.ensures.rest at c.in_ok-slots.ensures.reads) (word_sampled word.EndVar) refl (at_first (word_sampled word.EndVar) (rw c.skip_lines-2.ensures.rest at c.in_err-word.ensures.first)))))
