use Rattle.il_syntax.specs.declared.keyword.Keyword.TheVariants as word
use Rattle.il_syntax.specs.Grammar.{TheWord}
use Rattle.load_lines.proofs.Chain.{up, starts, goes_on, item_refused, ended, was_there, was_missing}
use Rattle.il_syntax_laws.proofs.Local.{loosely_local, declaration_local, word_told}
use Rattle.load_lines.proofs.Completions.{declaration_filling, item_breaks}
use Rattle.il_syntax_laws.proofs.GoesOn.{passes_always, stays_loose}
use Rattle.std.proofs.Common.{refl}
use Rattle.load_lines.proofs.Breaks.{up_breaks}
use Rattle.il_syntax_laws.proofs.Samples.{word_sampled}
use Rattle.load_lines.proofs.source.Source.declarations.Goals as goal

pub declarations-init : goal.declarations-init
declarations-init c = rw c.new-declarations.ensures (starts _ _ _ _)

pub returns-in_err-declaration-clause-refused : goal.returns-in_err-declaration-clause-refused
returns-in_err-declaration-clause-refused c =
    let none = was_missing (TheWord c.args.self.now word.EndVar) c.declarations.tokens _ c.eat_word.new.tokens c.eat_word.ensures.eaten c.declarations-test.true in
    up _ c.from_residual.ensures.1 (item_refused _ _ _ (word_told word.EndVar) _ _ _ _ none.1 c.declarations.invariant (rw none.0 at c.in_err-declaration.ensures.refused))

pub declarations-preserved : goal.declarations-preserved
declarations-preserved c =
    let none = was_missing (TheWord c.args.self.now word.EndVar) c.declarations.tokens _ c.eat_word.new.tokens c.eat_word.ensures.eaten c.declarations-test.true in
    rw (c.skip_lines.ensures.rest, c.in_ok-push.ensures.ok)
    (goes_on _ _ _ declaration_filling (loosely_local declaration_local) (word_told word.EndVar) _ _ _ _ _ none.1 c.declarations.invariant (rw none.0 at c.in_ok-declaration.ensures.reads))

pub returns-clause-reads : goal.returns-clause-reads
returns-clause-reads c =
    ended _ _ _ _ _ _ _ c.declarations.invariant (was_there (TheWord c.args.self.now word.EndVar) c.declarations.tokens _ c.eat_word.new.tokens c.eat_word.ensures.eaten c.declarations-test.false)

pub returns-in_err-declaration-clause-begins : goal.returns-in_err-declaration-clause-begins
returns-in_err-declaration-clause-begins c =
    let none = was_missing (TheWord c.args.self.now word.EndVar) c.declarations.tokens _ c.eat_word.new.tokens c.eat_word.ensures.eaten c.declarations-test.true in
    up_breaks _ c.from_residual.ensures.1 (item_breaks (word_sampled word.EndVar) passes_always (stays_loose refl) c.declarations.invariant (rw none.0 at c.in_err-declaration.ensures.begins))
