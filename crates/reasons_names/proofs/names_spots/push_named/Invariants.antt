use Rattle.std.proofs.Common.{◌≡◌, ◌++◌, take}
use Rattle.reasons_names.specs.NameSpots.{shown}
use Rattle.reasons_names.proofs.names_spots.push_named.Given as goal

abbrev pub invariant-names : goal.invariant-names
invariant-names l = shown l.spots.items ≡ shown l.initial.spots.items ++ take l.name-index l.names
