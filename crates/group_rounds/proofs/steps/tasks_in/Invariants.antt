use Rattle.std.proofs.Common.{◌≡◌, ◌≤◌, filter, length}
use Rattle.group_spec.specs.Snapshot.{has_task}
use Rattle.group_journal.specs.Rounds.{counting_from}
use Rattle.group_rounds.proofs.steps.tasks_in.Given as goal

-- those of the cars so far that the group has
abbrev pub invariant-cars : goal.invariant-cars
invariant-cars l = (l.tasks ≡ filter (has_task l.verified.config) (counting_from 1 l.below)) × (length l.tasks ≤ l.below)
