use Rattle.il_syntax.specs.declared.keyword.Keyword.TheVariants as word
use Rattle.il_syntax.specs.Grammar.{Repeats, TheWord, SpellsDeclaration}
use Rattle.load_tree.proofs.Missing.{word_refused, list_refused}
use Rattle.load_tree.proofs.Ahead.{up_ahead}
use Rattle.il_syntax_laws.proofs.Samples.{list_end_sampled}
use Rattle.load_tree.proofs.Rests.{list_first, list_later}
use Rattle.std.proofs.Common.{refl}
use Rattle.load_lines.proofs.Breaks.{up_breaks}
use Rattle.load_tree.proofs.variables.list.Goals as goal

pub returns-in_err-declarations-clause-refused : goal.returns-in_err-declarations-clause-refused
returns-in_err-declarations-clause-refused c =
    up_ahead _ c.from_residual-in_err-declarations.ensures.1
    (list_refused c.args.source.now _ _ _ _ (rw c.skip_lines.ensures.rest at c.in_ok-word.ensures.reads) (rw c.skip_lines-2.ensures.rest at c.in_err-declarations.ensures.refused))

pub returns-in_err-word-clause-refused : goal.returns-in_err-word-clause-refused
returns-in_err-word-clause-refused c =
    up_ahead _ c.from_residual.ensures.1
    (word_refused c.args.source.now c.args.keyword (λ text ds. Repeats (SpellsDeclaration text) ds (TheWord text word.EndVar)) _ _ (rw c.skip_lines.ensures.rest at c.in_err-word.ensures.refused))

pub returns-in_err-word-clause-begins : goal.returns-in_err-word-clause-begins
returns-in_err-word-clause-begins c = up_breaks _ c.from_residual.ensures.1 (list_first c.args.keyword list_end_sampled refl (rw c.skip_lines.ensures.rest at c.in_err-word.ensures.first))

pub returns-in_err-declarations-clause-begins : goal.returns-in_err-declarations-clause-begins
returns-in_err-declarations-clause-begins c = up_breaks _ c.from_residual-in_err-declarations.ensures.1 (list_later c.args.keyword list_end_sampled refl (rw c.skip_lines.ensures.rest at c.in_ok-word.ensures.reads) (rw c.skip_lines-2.ensures.rest at c.in_err-declarations.ensures.begins))
