use Rattle.il_syntax.specs.declared.keyword.Keyword.TheVariants as word
use Rattle.load_tree.specs.Lists.{SpellsExternalsInside}
use Rattle.load_tree.proofs.Missing.{word_refused, inside_refused}
use Rattle.load_tree.proofs.Ahead.{up_ahead}
use Rattle.il_syntax_laws.proofs.Samples.{externals_end_sampled}
use Rattle.load_tree.proofs.Rests.{list_first, list_later}
use Rattle.std.proofs.Common.{refl}
use Rattle.load_lines.proofs.Breaks.{up_breaks}
use Rattle.load_tree.proofs.variables.external_list.Goals as goal

pub returns-in_err-externals_inside-clause-refused : goal.returns-in_err-externals_inside-clause-refused
returns-in_err-externals_inside-clause-refused c =
    up_ahead _ c.from_residual-in_err-externals_inside.ensures.1
    (inside_refused c.args.source.now word.VarExternal SpellsExternalsInside _ _ _ (rw c.skip_lines.ensures.rest at c.in_ok-word.ensures.reads) (rw c.skip_lines-2.ensures.rest at c.in_err-externals_inside.ensures.refused))

pub returns-in_err-word-clause-refused : goal.returns-in_err-word-clause-refused
returns-in_err-word-clause-refused c =
    up_ahead _ c.from_residual.ensures.1 (word_refused c.args.source.now word.VarExternal SpellsExternalsInside _ _ (rw c.skip_lines.ensures.rest at c.in_err-word.ensures.refused))

pub returns-in_err-word-clause-begins : goal.returns-in_err-word-clause-begins
returns-in_err-word-clause-begins c = up_breaks _ c.from_residual.ensures.1 (list_first word.VarExternal externals_end_sampled refl (rw c.skip_lines.ensures.rest at c.in_err-word.ensures.first))

pub returns-in_err-externals_inside-clause-begins : goal.returns-in_err-externals_inside-clause-begins
returns-in_err-externals_inside-clause-begins c = up_breaks _ c.from_residual-in_err-externals_inside.ensures.1 (list_later word.VarExternal externals_end_sampled refl (rw c.skip_lines.ensures.rest at c.in_ok-word.ensures.reads) (rw c.skip_lines-2.ensures.rest at c.in_err-externals_inside.ensures.begins))
