use Rattle.std.proofs.Common.{◌≡◌, ◌++◌, flat_map, take, string_bytes}
use Rattle.reasons_faults.specs.TaskReasons.{unused_lines}
use Rattle.reasons_faults.proofs.tasks.put_unused.Given as goal

abbrev pub invariant-units : goal.invariant-units
invariant-units l = string_bytes l.text ≡ string_bytes l.initial.text ++ flat_map (unused_lines l.config l.offset) (take l.unit-index l.units)
