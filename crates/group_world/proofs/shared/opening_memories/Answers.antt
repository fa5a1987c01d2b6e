use Rattle.std.proofs.Common.{◌≡◌, ◌+◌, suc, ◌∙◌, ap, arith}
use Rattle.group_spec.specs.World.{opening_tasks_from}
use Rattle.scan_task.specs.Scanning.{FitsOwn, OwnsDeclared, variables_in}
use Rattle.group_world.specs.declared.shared.TaskMemory.{TaskMemory}
use Rattle.group_world.proofs.Opens.{memories_more, holds_more, length_more}
use Rattle.group_world.proofs.shared.opening_memories.Goals as goal

pub loop-task-preserved : goal.loop-task-preserved
loop-task-preserved c =
    let config = c.args.verified.now.config in
    rw c.in_ok-push.ensures.items (record {
      many = length_more c.loop-task.memories.items c.in_ok-opening_memory.field-0 ∙ ap (λ n. n + 1) c.loop-task.invariant.many;
      tasks = memories_more _ c.loop-task.memories.items c.in_ok-opening_memory.field-0 c.loop-task.task c.loop-task.invariant.many c.loop-task.invariant.tasks c.in_ok-opening_memory.ensures.task;
      fits = holds_more (λ t (s : TaskMemory). FitsOwn config t s.variables × OwnsDeclared config t (variables_in config t s.variables)) c.loop-task.memories.items c.in_ok-opening_memory.field-0 c.loop-task.task c.loop-task.invariant.many c.loop-task.invariant.fits c.in_ok-opening_memory.ensures.fits;
    })

pub returns-clause-tasks : goal.returns-clause-tasks
returns-clause-tasks c =
    let all : c.loop-task.task ≡ suc c.args.cars = omega (arith, c.loop-task-test.false, c.loop-task.auto.task-end) in
    c.loop-task.invariant.tasks ∙ ap (opening_tasks_from c.args.verified.now.config 0) all

pub opening_memory-requires : goal.opening_memory-requires
opening_memory-requires c = omega (arith, c.loop-task-test.true, c.requires.all)
