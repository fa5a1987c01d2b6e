use Rattle.std.proofs.Common.{◌≡◌, ◌++◌, flat_map, string_bytes}
use Rattle.show_names.specs.Names.{names_left}
use Rattle.show_names.specs.Xref.{declared_row, declared_rows}
use Rattle.show_names.proofs.xref.put_declared.Given as goal

abbrev pub invariant-names : goal.invariant-names
invariant-names l = string_bytes l.text ++ flat_map (declared_row l.form l.uses.unit.now.body.steps) (names_left l.name-iterator) ≡ string_bytes l.initial.text ++ declared_rows l.form l.uses.unit.now.body.steps l.declarations
