use Rattle.std.proofs.Common.{◌∙◌, ap, ◌+◌, arith}
use Rattle.std.specs.Prelude.{is_some}
use Rattle.scan_task.specs.Standing.{IsOf}
use Rattle.group_spec.specs.World.{task_at}
use Rattle.group_world.specs.Groups.{HasVariables}
use Rattle.group_world.proofs.Opens.{length_more, holds_more, there_more}
use Rattle.group_world.proofs.stores.resumed_stores.Goals as goal

pub loop-task-preserved : goal.loop-task-preserved
loop-task-preserved c =
    let config = c.args.verified.now.config in
    let group = c.args.core.now.group in
    let so_far = c.loop-task.invariant in
    let next = c.in_ok-resumed_store.ensures in
    rw c.in_ok-push.ensures.items (record {
      many = length_more c.loop-task.stores.items c.in_ok-resumed_store.field-0 ∙ ap (λ n. n + 1) so_far.many;
      there = there_more (λ t. is_some (task_at group t)) c.loop-task.stores.items c.in_ok-resumed_store.field-0 c.loop-task.task so_far.many so_far.there next.there;
      each = holds_more (λ t s. IsOf config t s) c.loop-task.stores.items c.in_ok-resumed_store.field-0 c.loop-task.task so_far.many so_far.each next.of;
      variables = holds_more (λ t s. HasVariables group t s) c.loop-task.stores.items c.in_ok-resumed_store.field-0 c.loop-task.task so_far.many so_far.variables next.variables;
    })

pub resumed_store-requires-clause-task : goal.resumed_store-requires-clause-task
resumed_store-requires-clause-task c = omega (arith, c.loop-task-test.true, c.requires.all)
