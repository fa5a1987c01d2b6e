use Rattle.std.proofs.Common.{◌≡◌, ℕ, length, Some}
use Rattle.std.specs.Prelude.{slice_get}
use Rattle.scan_task.specs.Scanning.{FitsOwn, OwnsDeclared, variables_in}
use Rattle.group_spec.specs.World.{flat, opening_tasks_from}
use Rattle.group_world.specs.declared.shared.TaskMemory.{TaskMemory}
use Rattle.group_world.specs.Running.{tasks_in}
use Rattle.group_world.proofs.shared.opening_memories.Given as goal

-- the memories up to here are those of the opening
abbrev pub invariant-loop-task : goal.invariant-loop-task
invariant-loop-task l = record {
  many : length l.memories.items ≡ l.task;
  tasks : tasks_in l.verified.config 0 l.memories.items ≡ opening_tasks_from l.verified.config 0 l.task;
  fits : (t : ℕ) (s : TaskMemory) → flat (slice_get l.memories.items t) ≡ Some s → FitsOwn l.verified.config t s.variables × OwnsDeclared l.verified.config t (variables_in l.verified.config t s.variables);
}
