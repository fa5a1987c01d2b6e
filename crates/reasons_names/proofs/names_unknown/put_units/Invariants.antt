use Rattle.std.proofs.Common.{◌≡◌, ◌++◌, flat_map, take, string_bytes}
use Rattle.reasons_names.specs.NamesUnknown.{unit_text}
use Rattle.reasons_names.proofs.names_unknown.put_units.Given as goal

abbrev pub invariant-units : goal.invariant-units
invariant-units l = string_bytes l.text ≡ string_bytes l.initial.text ++ flat_map (unit_text l.names l.place) (take l.unit-index l.units)
