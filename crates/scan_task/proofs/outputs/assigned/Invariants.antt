use Rattle.std.proofs.Common.{◌≡◌, ◌+◌, ◌-◌, ◌++◌, length}
use Rattle.group_spec.specs.Snapshot.{assigned_from}
use Rattle.scan_task.specs.Scanning.{state_of, kept_of}
use Rattle.scan_task.proofs.outputs.assigned.Given as goal

-- those so far, with those that are left, are all
abbrev pub invariant-slots : goal.invariant-slots
invariant-slots l = record {
  count : length l.cars ≡ l.slot;
  rest : l.cars ++ assigned_from (l.count - l.slot) (l.slot + 1) (state_of (kept_of l.verified.config 0 l.scan)).values ≡ assigned_from l.count 1 (state_of (kept_of l.verified.config 0 l.scan)).values;
}
