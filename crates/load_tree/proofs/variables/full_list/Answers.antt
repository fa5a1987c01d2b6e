use Rattle.il_syntax.specs.declared.keyword.Keyword.TheVariants as word
use Rattle.il_syntax.specs.Grammar.{TheWord}
use Rattle.load_tree.proofs.Missing.{no_full, empty_refused, full_refused, it_stands, it_is_missing}
use Rattle.load_tree.proofs.Ahead.{up_ahead}
use Rattle.load_tree.proofs.Rests.{as_full, filled_breaks, list_first, list_later}
use Rattle.load_lines.proofs.Breaks.{at_first, up_breaks}
use Rattle.il_syntax_laws.proofs.Samples.{filled_end_sampled}
use Rattle.std.proofs.Common.{refl}
use Rattle.load_tree.proofs.variables.full_list.Goals as goal

pub returns-then-word_stands-clause-refused : goal.returns-then-word_stands-clause-refused
returns-then-word_stands-clause-refused c =
    let end = it_stands (TheWord c.args.source.now word.EndVar) c.skip_lines-2.new.self _ c.word_stands.ensures.stands c.if-word_stands.true in
    let moved = rw c.skip_lines-2.ensures.rest at end in
    empty_refused c.args.source.now _ _ _ _ _ (rw c.skip_lines.ensures.rest at c.in_ok-word.ensures.reads) moved.1 (rw c.skip_lines-2.ensures.rest at c.outside.ensures)

pub returns-in_err-declarations-clause-refused : goal.returns-in_err-declarations-clause-refused
returns-in_err-declarations-clause-refused c =
    up_ahead _ c.from_residual-in_err-declarations.ensures.1
    (full_refused c.args.source.now _ _ _ _ (rw c.skip_lines.ensures.rest at c.in_ok-word.ensures.reads) (rw c.skip_lines-2.ensures.rest at c.in_err-declarations.ensures.refused))

pub returns-in_err-word-clause-refused : goal.returns-in_err-word-clause-refused
returns-in_err-word-clause-refused c = up_ahead _ c.from_residual.ensures.1 (no_full c.args.source.now _ _ _ (rw c.skip_lines.ensures.rest at c.in_err-word.ensures.refused))

pub returns-in_err-word-clause-begins : goal.returns-in_err-word-clause-begins
returns-in_err-word-clause-begins c = up_breaks _ c.from_residual.ensures.1 (as_full c.args.keyword (list_first c.args.keyword filled_end_sampled refl (rw c.skip_lines.ensures.rest at c.in_err-word.ensures.first)))

pub returns-then-word_stands-clause-begins : goal.returns-then-word_stands-clause-begins
returns-then-word_stands-clause-begins c = as_full c.args.keyword (list_later c.args.keyword filled_end_sampled refl (rw c.skip_lines.ensures.rest at c.in_ok-word.ensures.reads) (at_first filled_end_sampled (λ _. rw c.skip_lines-2.ensures.rest at c.outside.ensures)))

pub returns-in_err-declarations-clause-begins : goal.returns-in_err-declarations-clause-begins
returns-in_err-declarations-clause-begins c =
    let none = it_is_missing (TheWord c.args.source.now word.EndVar) c.skip_lines-2.new.self _ c.word_stands.ensures.stands c.if-word_stands.false in
    up_breaks _ c.from_residual-in_err-declarations.ensures.1 (as_full c.args.keyword (list_later c.args.keyword filled_end_sampled refl (rw c.skip_lines.ensures.rest at c.in_ok-word.ensures.reads) (filled_breaks (rw c.skip_lines-2.ensures.rest at none) (rw c.skip_lines-2.ensures.rest at c.in_err-declarations.ensures.begins))))
