use Rattle.std.proofs.Common.{◌≡◌, ◌++◌, flat_map, string_bytes}
use Rattle.show_names.specs.Names.{names_left, declared_names}
use Rattle.show_names.specs.Xref.{global_row}
use Rattle.show_names.proofs.xref.put_global_rows.Given as goal

abbrev pub invariant-names : goal.invariant-names
invariant-names l = string_bytes l.text ++ flat_map (global_row l.form l.uses.units.now) (names_left l.name-iterator) ≡ string_bytes l.initial.text ++ flat_map (global_row l.form l.uses.units.now) (declared_names l.globals)
