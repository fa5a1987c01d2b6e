use Rattle.std.proofs.Common.{◌≡◌, ◌++◌, flat_map, take, string_bytes}
use Rattle.reasons_types.specs.InitialReasons.{unit_initials}
use Rattle.reasons_types.proofs.types_initials.put_units.Given as goal

-- the units so far
abbrev pub invariant-units : goal.invariant-units
invariant-units l = string_bytes l.text ≡ string_bytes l.initial.text ++ flat_map (unit_initials l.offset) (take l.unit-index l.units)
