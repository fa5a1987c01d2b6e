use Rattle.std.proofs.Common.{◌≡◌, ◌++◌, take, map, string_bytes}
use Rattle.show_names.specs.Xref.{places_text, unit_places_shown}
use Rattle.show_names.proofs.xref.put_places.Given as goal

abbrev pub invariant-places : goal.invariant-places
invariant-places l = string_bytes l.text ≡ string_bytes l.initial.text ++ places_text (map unit_places_shown (take l.place-index l.places))
