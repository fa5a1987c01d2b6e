use Rattle.std.proofs.Common.{◌≡◌, ◌++◌, flat_map, string_bytes}
use Rattle.show_names.specs.Names.{names_left}
use Rattle.show_names.specs.Warnings.{name_text, names_text}
use Rattle.show_names.proofs.warnings.put_names.Given as goal

abbrev pub invariant-names : goal.invariant-names
invariant-names l = string_bytes l.text ++ flat_map (name_text l.origin l.uses.unit.now.body.steps) (names_left l.name-iterator) ≡ string_bytes l.initial.text ++ names_text l.origin l.uses.unit.now.body.steps l.declarations
