use Rattle.std.proofs.Common.{◌≡◌, map, drop}
use Rattle.il_syntax.specs.declared.tree.Task.{Task}
use Rattle.il_statics.specs.Names.{is_one_of}
use Rattle.reasons_faults.proofs.tasks.has_task.Given as goal

abbrev pub invariant-tasks : goal.invariant-tasks
invariant-tasks l = is_one_of (map (λ (t : Task). t.name.name) (drop l.task-index l.tasks)) l.name ≡ is_one_of (map (λ (t : Task). t.name.name) l.tasks) l.name
