use Rattle.std.proofs.Common.{◌≡◌, ◌++◌, flat_map, take, string_bytes}
use Rattle.reasons_faults.specs.TreeReasons.{unit_lines}
use Rattle.reasons_faults.proofs.tree.put_units.Given as goal

-- the units so far
abbrev pub invariant-units : goal.invariant-units
invariant-units l = string_bytes l.text ≡ string_bytes l.initial.text ++ flat_map (unit_lines l.names l.number l.offset) (take l.at l.names.units)
