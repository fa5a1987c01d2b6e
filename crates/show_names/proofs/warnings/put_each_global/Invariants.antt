use Rattle.std.proofs.Common.{◌≡◌, ◌++◌, flat_map, string_bytes}
use Rattle.show_names.specs.Names.{declared_names, names_left}
use Rattle.show_names.specs.Warnings.{global_text}
use Rattle.show_names.proofs.warnings.put_each_global.Given as goal

abbrev pub invariant-names : goal.invariant-names
invariant-names l = string_bytes l.text ++ flat_map (global_text l.uses.units.now) (names_left l.name-iterator) ≡ string_bytes l.initial.text ++ flat_map (global_text l.uses.units.now) (declared_names l.globals)
