use Rattle.std.proofs.Common.{◌≡◌, ◌++◌, flat_map, take, string_bytes}
use Rattle.show_names.specs.Warnings.{unit_text}
use Rattle.show_names.proofs.warnings.put_each_unit.Given as goal

abbrev pub invariant-units : goal.invariant-units
invariant-units l = string_bytes l.text ≡ string_bytes l.initial.text ++ flat_map (unit_text l.needed.config.now) (take l.unit-index l.units)
