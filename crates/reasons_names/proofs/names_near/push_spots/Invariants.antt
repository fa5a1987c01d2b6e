use Rattle.std.proofs.Common.{◌≡◌, ◌++◌, map, take}
use Rattle.reasons_names.specs.NameSpots.{shown}
use Rattle.reasons_names.specs.NamesNear.{declared_name, candidate_shown}
use Rattle.reasons_names.proofs.names_near.push_spots.Given as goal

abbrev pub invariant-spots : goal.invariant-spots
invariant-spots l = map candidate_shown l.candidates.items ≡ map candidate_shown l.initial.candidates.items ++ map declared_name (shown (take l.spot-index l.spots))
