use Rattle.std.proofs.Common.{◌≡◌, ℕ, ◌<◌}
use Rattle.scan_task.specs.Scanning.{value_at}
use Rattle.scan_task.proofs.scanned.same_by_slots.Given as goal

abbrev pub invariant-loop-slot : goal.invariant-loop-slot
invariant-loop-slot l = (k : ℕ) → k < l.slot → value_at l.cells l.rows k ≡ value_at l.cells l.others k
