use Rattle.std.proofs.Common.{◌≡◌, take, map}
use Rattle.reasons_names.specs.NameSpots.{shown, task_name}
use Rattle.reasons_names.proofs.names_spots.task_spots.Given as goal

abbrev pub invariant-tasks : goal.invariant-tasks
invariant-tasks l = shown l.spots.items ≡ map task_name (take l.task-index l.tasks)
