use Rattle.std.proofs.Common.{sym, ◌∙◌}
use Rattle.group_spec.specs.World.{task_at}
use Rattle.example_library.proofs.Opens.{open_task}
use Rattle.example_library.proofs.memory.group.scan.Goals as goal

pub commit-requires-clause-open : goal.commit-requires-clause-open
commit-requires-clause-open c = open_task (task_at c.if-has_task.core.group 1) (sym c.is_open-is_open.ensures ∙ c.if-is_open.true)
