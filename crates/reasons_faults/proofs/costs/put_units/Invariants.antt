use Rattle.std.proofs.Common.{◌≡◌, ◌++◌, flat_map, take, string_bytes}
use Rattle.reasons_faults.specs.CostReasons.{heading_lines}
use Rattle.reasons_faults.proofs.costs.put_units.Given as goal

-- the units so far
abbrev pub invariant-units : goal.invariant-units
invariant-units l = string_bytes l.text ≡ string_bytes l.initial.text ++ flat_map (heading_lines l.names l.offset) (take l.at l.names.units)
