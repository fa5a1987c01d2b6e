use Rattle.std.proofs.Common.{◌≡◌, drop}
use Rattle.reasons_faults.specs.TaskReasons.{first_place}
use Rattle.reasons_faults.proofs.tasks.first_place.Given as goal

abbrev pub invariant-lines : goal.invariant-lines
invariant-lines l = first_place (drop l.line-index l.lines) l.task ≡ first_place l.lines l.task
