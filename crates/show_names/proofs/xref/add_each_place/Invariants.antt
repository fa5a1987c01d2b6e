use Rattle.std.proofs.Common.{◌≡◌, ◌++◌, take, flat_map, map}
use Rattle.show_names.specs.Xref.{place_tokens, unit_places_shown}
use Rattle.show_names.proofs.xref.add_each_place.Given as goal

abbrev pub invariant-places : goal.invariant-places
invariant-places l = l.object ≡ l.initial.object ++ flat_map place_tokens (map unit_places_shown (take l.place-index l.places))
