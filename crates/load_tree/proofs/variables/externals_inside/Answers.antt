use Rattle.il_syntax.specs.declared.keyword.Keyword.TheVariants as word
use Rattle.il_syntax.specs.Grammar.{TheWord}
use Rattle.load_lines.proofs.Chain.{starts, up, goes_on, item_refused, ended, was_there, was_missing}
use Rattle.il_syntax_laws.proofs.Local.{external_local, loosely_local, word_told}
use Rattle.load_tree.proofs.Rests.{external_filling}
use Rattle.load_lines.proofs.Completions.{item_breaks}
use Rattle.il_syntax_laws.proofs.GoesOn.{passes_always, stays_loose}
use Rattle.std.proofs.Common.{refl}
use Rattle.load_lines.proofs.Breaks.{up_breaks}
use Rattle.il_syntax_laws.proofs.Samples.{word_sampled}
use Rattle.load_tree.proofs.variables.externals_inside.Goals as goal

pub returns-in_err-external-clause-refused : goal.returns-in_err-external-clause-refused
returns-in_err-external-clause-refused c =
    let none = was_missing (TheWord c.args.source.now word.EndVar) c.externals.tokens _ c.eat_word.new.tokens c.eat_word.ensures.eaten c.externals-test.true in
    up _ c.from_residual.ensures.1 (item_refused _ _ _ (word_told word.EndVar) _ _ _ _ none.1 c.externals.invariant (rw none.0 at c.in_err-external.ensures.refused))

pub externals-preserved : goal.externals-preserved
externals-preserved c =
    let none = was_missing (TheWord c.args.source.now word.EndVar) c.externals.tokens _ c.eat_word.new.tokens c.eat_word.ensures.eaten c.externals-test.true in
    rw (c.skip_lines.ensures.rest, c.in_ok-push.ensures.ok)
    (goes_on _ _ _ external_filling (loosely_local external_local) (word_told word.EndVar) _ _ _ _ _ none.1 c.externals.invariant (rw none.0 at c.in_ok-external.ensures.reads))

pub returns-clause-reads : goal.returns-clause-reads
returns-clause-reads c =
    ended _ _ _ _ _ _ _ c.externals.invariant (was_there (TheWord c.args.source.now word.EndVar) c.externals.tokens _ c.eat_word.new.tokens c.eat_word.ensures.eaten c.externals-test.false)

pub externals-init : goal.externals-init
externals-init c = rw c.new-externals.ensures (starts _ _ _ _)

pub returns-in_err-external-clause-begins : goal.returns-in_err-external-clause-begins
returns-in_err-external-clause-begins c =
    let none = was_missing (TheWord c.args.source.now word.EndVar) c.externals.tokens _ c.eat_word.new.tokens c.eat_word.ensures.eaten c.externals-test.true in
    up_breaks _ c.from_residual.ensures.1 (item_breaks (word_sampled word.EndVar) passes_always (stays_loose refl) c.externals.invariant (rw none.0 at c.in_err-external.ensures.begins))
