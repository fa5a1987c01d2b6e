use Rattle.std.proofs.Common.{◌≡◌, suc, ◌+◌, ◌-◌, ◌^◌, ◌<◌, ◌++◌, List, Option, length}
use Rattle.group_spec.specs.Image.{sizes_of}
use Rattle.group_spec.specs.World.{TaskState, opening_tasks_from}
use Rattle.group_state.specs.declared.fault.Wrong.{Wrong}
use Rattle.group_state.specs.Variables.{Left, TakesTasks, RefusesTasks}
use Rattle.group_state.specs.Walking.{with_tasks, left_of}
use Rattle.group_state.proofs.read.take_tasks.Given as goal

-- what is left completes what was read
abbrev pub invariant-tasks : goal.invariant-tasks
invariant-tasks l = record {
  config : l.core.config ≡ l.initial.core.config;
  room : l.to.line + length l.to.rest.now < 2 ^ 64;
  tasks : (done : List (Option TaskState)) × (length done ≡ l.task)
      × (l.core.group ≡ with_tasks l.initial.core.group (done ++ opening_tasks_from l.verified.config l.task (suc (sizes_of l.verified.config).cars - l.task)))
      × ((others : List (Option TaskState)) (to : Left) → TakesTasks l.verified.config l.task (suc (sizes_of l.verified.config).cars - l.task) (left_of l.to) others to
      → TakesTasks l.verified.config 0 (suc (sizes_of l.verified.config).cars) (left_of l.initial.to) (done ++ others) to);
  wrong : (wrong : Wrong) → RefusesTasks l.verified.config l.task (suc (sizes_of l.verified.config).cars - l.task) (left_of l.to) wrong
      → RefusesTasks l.verified.config 0 (suc (sizes_of l.verified.config).cars) (left_of l.initial.to) wrong;
}
