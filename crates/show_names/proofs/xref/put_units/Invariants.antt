use Rattle.std.proofs.Common.{◌≡◌, ◌++◌, flat_map, take, string_bytes}
use Rattle.show_names.specs.Xref.{unit_rows}
use Rattle.show_names.proofs.xref.put_units.Given as goal

abbrev pub invariant-units : goal.invariant-units
invariant-units l = string_bytes l.text ≡ string_bytes l.initial.text ++ flat_map (unit_rows l.form) (take l.unit-index l.units)
