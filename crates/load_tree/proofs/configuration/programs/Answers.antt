use Rattle.std.proofs.Common.{refl}
use Rattle.il_syntax.specs.declared.keyword.Keyword.TheVariants as word
use Rattle.il_syntax.specs.Grammar.{TheWord}
use Rattle.load_lines.proofs.Chain.{starts, up, goes_on, item_refused, ended}
use Rattle.load_tree.proofs.Missing.{it_stands, it_is_missing}
use Rattle.il_syntax_laws.proofs.Local.{program_line_local, loosely_local}
use Rattle.load_tree.proofs.Parts.{no_word_told}
use Rattle.load_tree.proofs.Rests.{program_line_filling, stop_breaks}
use Rattle.load_lines.proofs.Breaks.{up_breaks}
use Rattle.load_tree.proofs.configuration.programs.Goals as goal

pub returns-in_err-line-clause-refused : goal.returns-in_err-line-clause-refused
returns-in_err-line-clause-refused c =
    let there = it_stands (TheWord c.args.source.now word.Program) c.programs.tokens _ c.word_stands.ensures.stands c.programs-test.true in
    up _ c.from_residual.ensures.1 (item_refused _ _ _ (no_word_told word.Program) _ _ _ _ (λ r w. w.1 there.0 there.1) c.programs.invariant c.in_err-line.ensures.refused)

pub programs-preserved : goal.programs-preserved
programs-preserved c =
    let there = it_stands (TheWord c.args.source.now word.Program) c.programs.tokens _ c.word_stands.ensures.stands c.programs-test.true in
    rw (c.skip_lines.ensures.rest, c.in_ok-push.ensures.ok)
    (goes_on _ _ _ program_line_filling (loosely_local program_line_local) (no_word_told word.Program) _ _ _ _ _ (λ r w. w.1 there.0 there.1) c.programs.invariant c.in_ok-line.ensures.reads)

pub returns-clause-reads : goal.returns-clause-reads
returns-clause-reads c =
    let missing = it_is_missing (TheWord c.args.source.now word.Program) c.programs.tokens _ c.word_stands.ensures.stands c.programs-test.false in
    ended _ _ _ _ _ _ _ c.programs.invariant (refl, missing)

pub programs-init : goal.programs-init
programs-init c = rw c.new-programs.ensures (starts _ _ _ _)

pub returns-in_err-line-clause-begins : goal.returns-in_err-line-clause-begins
returns-in_err-line-clause-begins c = up_breaks _ c.from_residual.ensures.1 (stop_breaks program_line_filling word.Program c.programs.invariant c.in_err-line.ensures.begins)
