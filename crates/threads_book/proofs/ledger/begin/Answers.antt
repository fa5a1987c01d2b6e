use Rattle.std.proofs.Common.{◌≡◌, refl, ap, ◌∙◌}
use Rattle.group_spec.specs.Snapshot.{scan_begins}
use Rattle.group_spec.specs.World.{task_at, beginning_of, started_group}
use Rattle.threads_book.proofs.Again.{again, there_again, group_again}
use Rattle.threads_book.proofs.ledger.begin.Goals as goal

pub returns-in-Some-clause-group : goal.returns-in-Some-clause-group
returns-in-Some-clause-group c = λ x there.
    let first = c.start.ensures.group x there in
    let more = again c.args.core.now.group c.args.task x there in
    c.start-in-Some.ensures.group more (ap (λ g. task_at g c.args.task) first ∙ there_again c.args.core.now.group c.args.task x there) ∙ ap (λ g. started_group g c.args.task more) first ∙ group_again c.args.core.now.group c.args.task x there

pub returns-in-Some-clause-own : goal.returns-in-Some-clause-own
returns-in-Some-clause-own c = λ x there.
    let first = c.start.ensures.group x there in
    let more = again c.args.core.now.group c.args.task x there in (
      c.start-in-Some.new.store,
      refl,
      c.start-in-Some.ensures.of,
      c.start-in-Some.ensures.begins more (ap (λ g. task_at g c.args.task) first ∙ there_again c.args.core.now.group c.args.task x there) ∙ ap (λ g. scan_begins c.args.verified.now.config c.args.task (beginning_of g more)) first,
    )
