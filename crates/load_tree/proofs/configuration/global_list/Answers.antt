use Rattle.il_syntax.specs.declared.keyword.Keyword.TheVariants as word
use Rattle.il_syntax.specs.Grammar.{loose, Repeats, TheWord, SpellsDeclaration}
use Rattle.load_lines.proofs.Chain.{first, later, part}
use Rattle.il_syntax_laws.proofs.Local.{placed_word_local}
use Rattle.il_syntax_laws.proofs.Alike.{loose_gap}
use Rattle.load_tree.proofs.Ahead.{up_ahead, past_lines}
use Rattle.load_lines.proofs.Breaks.{at_first, later_loose, s_loose, up_breaks}
use Rattle.load_lines.proofs.Completions.{lines_break, placed_word_filling}
use Rattle.il_syntax_laws.proofs.Samples.{list_end_sampled, placed_word_sampled}
use Rattle.std.proofs.Common.{refl}
use Rattle.load_tree.proofs.configuration.global_list.Goals as goal

pub returns-in_err-place-clause-refused : goal.returns-in_err-place-clause-refused
returns-in_err-place-clause-refused c =
    up_ahead _ c.from_residual.ensures.1
    (past_lines (λ other us back a gone x r w. gone x r w) (first (λ b. b.0) loose (λ text b. Repeats (SpellsDeclaration text) b.1 (TheWord text word.EndVar)) (rw c.skip_lines.ensures.rest at c.in_err-place.ensures.refused)))

pub returns-in_err-declarations-clause-refused : goal.returns-in_err-declarations-clause-refused
returns-in_err-declarations-clause-refused c =
    up_ahead _ c.from_residual-in_err-declarations.ensures.1
    (past_lines (λ other us back a gone x r w. gone x r w) (later (λ b. b.0) loose_gap (λ text b. Repeats (SpellsDeclaration text) b.1 (TheWord text word.EndVar)) (placed_word_local word.VarGlobal) (rw c.skip_lines.ensures.rest at c.in_ok-place.ensures.reads)
    (part (λ b. b.1) (rw c.skip_lines-2.ensures.rest at c.in_err-declarations.ensures.refused))))

pub returns-clause-reads : goal.returns-clause-reads
returns-clause-reads c = record { found = (_, (rw c.skip_lines.ensures.rest at c.in_ok-place.ensures.reads).found, (rw c.skip_lines-2.ensures.rest at c.in_ok-declarations.ensures.reads).found) }

pub returns-in_err-place-clause-begins : goal.returns-in_err-place-clause-begins
returns-in_err-place-clause-begins c = up_breaks _ c.from_residual.ensures.1 (lines_break (s_loose (placed_word_sampled word.VarGlobal) list_end_sampled refl) refl (at_first (s_loose (placed_word_sampled word.VarGlobal) list_end_sampled refl) (rw c.skip_lines.ensures.rest at c.in_err-place.ensures.first)))

pub returns-in_err-declarations-clause-begins : goal.returns-in_err-declarations-clause-begins
returns-in_err-declarations-clause-begins c = up_breaks _ c.from_residual-in_err-declarations.ensures.1 (lines_break (s_loose (placed_word_sampled word.VarGlobal) list_end_sampled refl) refl (later_loose (placed_word_filling word.VarGlobal) (rw c.skip_lines.ensures.rest at c.in_ok-place.ensures.reads) list_end_sampled refl (rw c.skip_lines-2.ensures.rest at c.in_err-declarations.ensures.begins)))
