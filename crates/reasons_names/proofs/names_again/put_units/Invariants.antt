use Rattle.std.proofs.Common.{◌≡◌, ◌++◌, flat_map, take, string_bytes}
use Rattle.reasons_names.specs.NameSpots.{shown}
use Rattle.reasons_names.specs.NamesAgain.{unit_names_text}
use Rattle.reasons_names.proofs.names_again.put_units.Given as goal

abbrev pub invariant-units : goal.invariant-units
invariant-units l = string_bytes l.text ≡ string_bytes l.initial.text ++ flat_map (unit_names_text l.names (shown l.units) l.place) (take l.unit-index l.trees)
