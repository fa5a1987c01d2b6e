use Rattle.std.proofs.Common.{refl}
use Rattle.il_syntax.specs.declared.keyword.Keyword.TheVariants as word
use Rattle.il_syntax.specs.Grammar.{TheWord}
use Rattle.load_lines.proofs.Chain.{starts, up, goes_on, item_refused, ended}
use Rattle.load_tree.proofs.Missing.{it_stands, it_is_missing}
use Rattle.il_syntax_laws.proofs.Local.{task_local, loosely_local}
use Rattle.load_tree.proofs.Parts.{no_word_told}
use Rattle.load_tree.proofs.Rests.{task_filling, stop_breaks}
use Rattle.load_lines.proofs.Breaks.{up_breaks}
use Rattle.load_tree.proofs.configuration.tasks.Goals as goal

pub returns-in_err-task-clause-refused : goal.returns-in_err-task-clause-refused
returns-in_err-task-clause-refused c =
    let there = it_stands (TheWord c.args.source.now word.Task) c.tasks.tokens _ c.word_stands.ensures.stands c.tasks-test.true in
    up _ c.from_residual.ensures.1 (item_refused _ _ _ (no_word_told word.Task) _ _ _ _ (λ r w. w.1 there.0 there.1) c.tasks.invariant c.in_err-task.ensures.refused)

pub tasks-preserved : goal.tasks-preserved
tasks-preserved c =
    let there = it_stands (TheWord c.args.source.now word.Task) c.tasks.tokens _ c.word_stands.ensures.stands c.tasks-test.true in
    rw (c.skip_lines.ensures.rest, c.in_ok-push.ensures.ok)
    (goes_on _ _ _ task_filling (loosely_local task_local) (no_word_told word.Task) _ _ _ _ _ (λ r w. w.1 there.0 there.1) c.tasks.invariant c.in_ok-task.ensures.reads)

pub returns-clause-reads : goal.returns-clause-reads
returns-clause-reads c =
    let missing = it_is_missing (TheWord c.args.source.now word.Task) c.tasks.tokens _ c.word_stands.ensures.stands c.tasks-test.false in
    ended _ _ _ _ _ _ _ c.tasks.invariant (refl, missing)

pub tasks-init : goal.tasks-init
tasks-init c = rw c.new-tasks.ensures (starts _ _ _ _)

pub returns-in_err-task-clause-begins : goal.returns-in_err-task-clause-begins
returns-in_err-task-clause-begins c = up_breaks _ c.from_residual.ensures.1 (stop_breaks task_filling word.Task c.tasks.invariant c.in_err-task.ensures.begins)
