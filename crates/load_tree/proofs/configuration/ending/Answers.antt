use Rattle.il_syntax.specs.declared.keyword.Keyword.TheVariants as word
use Rattle.il_syntax.specs.Grammar.{loose, ◌⋯◌, TheWord, TheEnd}
use Rattle.load_lines.proofs.Chain.{up, behind, first, first_missing, last_missing, later}
use Rattle.il_syntax_laws.proofs.Local.{word_local}
use Rattle.il_syntax_laws.proofs.Alike.{loose_gap}
use Rattle.load_tree.proofs.Parts.{resource_of_local}
use Rattle.load_tree.specs.Parts.{SpellsEnding}
use Rattle.load_lines.proofs.Breaks.{at_first, first_loose, later_loose, map_breaks, up_breaks}
use Rattle.load_tree.proofs.Rests.{close_sampled, resource_filling, text_end_breaks}
use Rattle.std.proofs.Common.{refl}
use Rattle.load_tree.proofs.configuration.ending.Goals as goal

pub returns-in_err-lines-clause-refused : goal.returns-in_err-lines-clause-refused
returns-in_err-lines-clause-refused c =
    up _ c.from_residual.ensures.1
    (first (λ b. b) loose (λ text b. TheWord text word.EndConfiguration ⋯ TheEnd) c.in_err-lines.ensures.refused)

pub returns-in_err-word-clause-refused : goal.returns-in_err-word-clause-refused
returns-in_err-word-clause-refused c =
    up _ c.from_residual-in_err-word.ensures.1
    (later (λ b. b) loose_gap (λ text b. TheWord text word.EndConfiguration ⋯ TheEnd) resource_of_local c.in_ok-lines.ensures.reads
    (first_missing loose (λ text b. TheEnd) (rw c.skip_lines.ensures.rest at c.in_err-word.ensures.refused)))

pub returns-in_err-text_end-clause-refused : goal.returns-in_err-text_end-clause-refused
returns-in_err-text_end-clause-refused c =
    up _ c.from_residual-in_err-text_end.ensures.1
    (later (λ b. b) loose_gap (λ text b. TheWord text word.EndConfiguration ⋯ TheEnd) resource_of_local c.in_ok-lines.ensures.reads
    (behind loose_gap (λ text b. TheEnd) (word_local word.EndConfiguration) (rw c.skip_lines.ensures.rest at c.in_ok-word.ensures.reads)
    (last_missing (rw c.skip_lines-2.ensures.rest at (c.in_err-text_end.ensures.refused c.args.source.now)))))

pub returns-clause-reads : goal.returns-clause-reads
returns-clause-reads c = record { found = (_, c.in_ok-lines.ensures.reads.found, (_, (rw c.skip_lines.ensures.rest at c.in_ok-word.ensures.reads).found, (rw c.skip_lines-2.ensures.rest at c.in_ok-text_end.ensures.reads).found)) }

pub returns-in_err-lines-clause-begins : goal.returns-in_err-lines-clause-begins
returns-in_err-lines-clause-begins c = up_breaks _ c.from_residual.ensures.1 (map_breaks {Q = SpellsEnding} (λ x. x.0) (λ x other us r w. w) (first_loose close_sampled refl c.in_err-lines.ensures.begins))

pub returns-in_err-word-clause-begins : goal.returns-in_err-word-clause-begins
returns-in_err-word-clause-begins c = up_breaks _ c.from_residual-in_err-word.ensures.1 (map_breaks {Q = SpellsEnding} (λ x. x.0) (λ x other us r w. w) (later_loose resource_filling c.in_ok-lines.ensures.reads close_sampled refl (at_first close_sampled (rw c.skip_lines.ensures.rest at c.in_err-word.ensures.first))))

pub returns-in_err-text_end-clause-begins : goal.returns-in_err-text_end-clause-begins
returns-in_err-text_end-clause-begins c = up_breaks _ c.from_residual-in_err-text_end.ensures.1 (map_breaks {Q = SpellsEnding} (λ x. x.0) (λ x other us r w. w) (later_loose resource_filling c.in_ok-lines.ensures.reads close_sampled refl (text_end_breaks (rw c.skip_lines.ensures.rest at c.in_ok-word.ensures.reads) (rw c.skip_lines-2.ensures.rest at c.in_err-text_end.ensures.first))))
