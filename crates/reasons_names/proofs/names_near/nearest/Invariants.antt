use Rattle.std.proofs.Common.{◌≡◌, map, drop, option_map}
use Rattle.reasons_names.specs.NamesNear.{near_shown, candidate_shown, nearest_from, nearest}
use Rattle.reasons_names.proofs.names_near.nearest.Given as goal

abbrev pub invariant-candidates : goal.invariant-candidates
invariant-candidates l = nearest_from l.name (option_map near_shown l.found) (map candidate_shown (drop l.candidate-index l.candidates)) ≡ nearest l.name (map candidate_shown l.candidates)
