use Rattle.il_syntax.specs.declared.keyword.Keyword.TheVariants as word
use Rattle.il_syntax.specs.Grammar.{loose, ◌⋯◌, TheWord, SomeName}
use Rattle.load_tree.specs.Parts.{SpellsLines}
use Rattle.load_lines.proofs.Chain.{up, behind, first_missing, part}
use Rattle.il_syntax_laws.proofs.Local.{word_local, some_name_local}
use Rattle.il_syntax_laws.proofs.Alike.{loose_gap}
use Rattle.load_lines.proofs.Breaks.{at_first, map_breaks, part_loose, s_part, up_breaks}
use Rattle.load_tree.proofs.Rests.{lines_all_sampled}
use Rattle.std.proofs.Common.{refl}
use Rattle.il_syntax_laws.proofs.Open.{some_name_fills, word_fills}
use Rattle.il_syntax_laws.proofs.Samples.{some_name_sampled, word_sampled}
use Rattle.load_tree.proofs.configuration.resource.Goals as goal

pub returns-in_err-word-clause-refused : goal.returns-in_err-word-clause-refused
returns-in_err-word-clause-refused c =
    up _ c.from_residual.ensures.1
    (first_missing loose (λ text b. SomeName text ⋯ TheWord text word.On ⋯ SomeName text ⋯ SpellsLines text b) c.in_err-word.ensures.refused)

pub returns-in_err-some_name-clause-refused : goal.returns-in_err-some_name-clause-refused
returns-in_err-some_name-clause-refused c =
    up _ c.from_residual-in_err-some_name.ensures.1
    (behind loose_gap (λ text b. SomeName text ⋯ TheWord text word.On ⋯ SomeName text ⋯ SpellsLines text b) (word_local word.Resource) c.in_ok-word.ensures.reads
    (first_missing loose (λ text b. TheWord text word.On ⋯ SomeName text ⋯ SpellsLines text b) (rw c.skip_lines.ensures.rest at c.in_err-some_name.ensures.refused)))

pub returns-in_err-word-2-clause-refused : goal.returns-in_err-word-2-clause-refused
returns-in_err-word-2-clause-refused c =
    up _ c.from_residual-in_err-word-2.ensures.1
    (behind loose_gap (λ text b. SomeName text ⋯ TheWord text word.On ⋯ SomeName text ⋯ SpellsLines text b) (word_local word.Resource) c.in_ok-word.ensures.reads
    (behind loose_gap (λ text b. TheWord text word.On ⋯ SomeName text ⋯ SpellsLines text b) some_name_local (rw c.skip_lines.ensures.rest at c.in_ok-some_name.ensures.reads)
    (first_missing loose (λ text b. SomeName text ⋯ SpellsLines text b) (rw c.skip_lines-2.ensures.rest at c.in_err-word-2.ensures.refused))))

pub returns-in_err-some_name-2-clause-refused : goal.returns-in_err-some_name-2-clause-refused
returns-in_err-some_name-2-clause-refused c =
    up _ c.from_residual-in_err-some_name-2.ensures.1
    (behind loose_gap (λ text b. SomeName text ⋯ TheWord text word.On ⋯ SomeName text ⋯ SpellsLines text b) (word_local word.Resource) c.in_ok-word.ensures.reads
    (behind loose_gap (λ text b. TheWord text word.On ⋯ SomeName text ⋯ SpellsLines text b) some_name_local (rw c.skip_lines.ensures.rest at c.in_ok-some_name.ensures.reads)
    (behind loose_gap (λ text b. SomeName text ⋯ SpellsLines text b) (word_local word.On) (rw c.skip_lines-2.ensures.rest at c.in_ok-word-2.ensures.reads)
    (first_missing loose (λ text b. SpellsLines text b) (rw c.skip_lines-3.ensures.rest at c.in_err-some_name-2.ensures.refused)))))

pub returns-in_err-lines-clause-refused : goal.returns-in_err-lines-clause-refused
returns-in_err-lines-clause-refused c =
    up _ c.from_residual-in_err-lines.ensures.1
    (behind loose_gap (λ text b. SomeName text ⋯ TheWord text word.On ⋯ SomeName text ⋯ SpellsLines text b) (word_local word.Resource) c.in_ok-word.ensures.reads
    (behind loose_gap (λ text b. TheWord text word.On ⋯ SomeName text ⋯ SpellsLines text b) some_name_local (rw c.skip_lines.ensures.rest at c.in_ok-some_name.ensures.reads)
    (behind loose_gap (λ text b. SomeName text ⋯ SpellsLines text b) (word_local word.On) (rw c.skip_lines-2.ensures.rest at c.in_ok-word-2.ensures.reads)
    (behind loose_gap (λ text b. SpellsLines text b) some_name_local (rw c.skip_lines-3.ensures.rest at c.in_ok-some_name-2.ensures.reads)
    (part (λ b. b) (rw c.skip_lines-4.ensures.rest at c.in_err-lines.ensures.refused))))))

pub returns-clause-reads : goal.returns-clause-reads
returns-clause-reads c = record { found = (_, c.in_ok-word.ensures.reads.found, (_, (rw c.skip_lines.ensures.rest at c.in_ok-some_name.ensures.reads).found, (_, (rw c.skip_lines-2.ensures.rest at c.in_ok-word-2.ensures.reads).found, (_, (rw c.skip_lines-3.ensures.rest at c.in_ok-some_name-2.ensures.reads).found, (rw c.skip_lines-4.ensures.rest at c.in_ok-lines.ensures.reads).found)))) }

pub returns-in_err-word-clause-begins : goal.returns-in_err-word-clause-begins
returns-in_err-word-clause-begins c =
    up_breaks _ c.from_residual.ensures.1 (map_breaks (λ x. x) (λ x other us r w. w) (at_first (s_part (word_sampled word.Resource) (s_part (some_name_sampled) (s_part (word_sampled word.On) (s_part (some_name_sampled) (lines_all_sampled) refl) refl) refl) refl) c.in_err-word.ensures.first))

pub returns-in_err-some_name-clause-begins : goal.returns-in_err-some_name-clause-begins
returns-in_err-some_name-clause-begins c =
    up_breaks _ c.from_residual-in_err-some_name.ensures.1 (map_breaks (λ x. x) (λ x other us r w. w) (part_loose (word_fills word.Resource) c.in_ok-word.ensures.reads (s_part (some_name_sampled) (s_part (word_sampled word.On) (s_part (some_name_sampled) (lines_all_sampled) refl) refl) refl) refl (at_first (s_part (some_name_sampled) (s_part (word_sampled word.On) (s_part (some_name_sampled) (lines_all_sampled) refl) refl) refl) (rw c.skip_lines.ensures.rest at c.in_err-some_name.ensures.first))))

pub returns-in_err-word-2-clause-begins : goal.returns-in_err-word-2-clause-begins
returns-in_err-word-2-clause-begins c =
    up_breaks _ c.from_residual-in_err-word-2.ensures.1 (map_breaks (λ x. x) (λ x other us r w. w) (part_loose (word_fills word.Resource) c.in_ok-word.ensures.reads (s_part (some_name_sampled) (s_part (word_sampled word.On) (s_part (some_name_sampled) (lines_all_sampled) refl) refl) refl) refl (part_loose (some_name_fills) (rw c.skip_lines.ensures.rest at c.in_ok-some_name.ensures.reads) (s_part (word_sampled word.On) (s_part (some_name_sampled) (lines_all_sampled) refl) refl) refl (at_first (s_part (word_sampled word.On) (s_part (some_name_sampled) (lines_all_sampled) refl) refl) (rw c.skip_lines-2.ensures.rest at c.in_err-word-2.ensures.first)))))

pub returns-in_err-some_name-2-clause-begins : goal.returns-in_err-some_name-2-clause-begins
returns-in_err-some_name-2-clause-begins c =
    up_breaks _ c.from_residual-in_err-some_name-2.ensures.1 (map_breaks (λ x. x) (λ x other us r w. w) (part_loose (word_fills word.Resource) c.in_ok-word.ensures.reads (s_part (some_name_sampled) (s_part (word_sampled word.On) (s_part (some_name_sampled) (lines_all_sampled) refl) refl) refl) refl (part_loose (some_name_fills) (rw c.skip_lines.ensures.rest at c.in_ok-some_name.ensures.reads) (s_part (word_sampled word.On) (s_part (some_name_sampled) (lines_all_sampled) refl) refl) refl (part_loose (word_fills word.On) (rw c.skip_lines-2.ensures.rest at c.in_ok-word-2.ensures.reads) (s_part (some_name_sampled) (lines_all_sampled) refl) refl (at_first (s_part (some_name_sampled) (lines_all_sampled) refl) (rw c.skip_lines-3.ensures.rest at c.in_err-some_name-2.ensures.first))))))

pub returns-in_err-lines-clause-begins : goal.returns-in_err-lines-clause-begins
returns-in_err-lines-clause-begins c =
    up_breaks _ c.from_residual-in_err-lines.ensures.1 (map_breaks (λ x. x) (λ x other us r w. w) (part_loose (word_fills word.Resource) c.in_ok-word.ensures.reads (s_part (some_name_sampled) (s_part (word_sampled word.On) (s_part (some_name_sampled) (lines_all_sampled) refl) refl) refl) refl (part_loose (some_name_fills) (rw c.skip_lines.ensures.rest at c.in_ok-some_name.ensures.reads) (s_part (word_sampled word.On) (s_part (some_name_sampled) (lines_all_sampled) refl) refl) refl (part_loose (word_fills word.On) (rw c.skip_lines-2.ensures.rest at c.in_ok-word-2.ensures.reads) (s_part (some_name_sampled) (lines_all_sampled) refl) refl (part_loose (some_name_fills) (rw c.skip_lines-3.ensures.rest at c.in_ok-some_name-2.ensures.reads) (lines_all_sampled) refl (rw c.skip_lines-4.ensures.rest at c.in_err-lines.ensures.begins))))))
