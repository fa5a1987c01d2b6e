use Rattle.std.proofs.Common.{◌≡◌, ◌++◌, map, flat_map, take}
use Rattle.reasons_names.specs.NamesNear.{candidate_shown}
use Rattle.reasons_names.specs.NamesKnown.{declared_instances}
use Rattle.reasons_names.proofs.names_known.push_instances.Given as goal

abbrev pub invariant-declarations : goal.invariant-declarations
invariant-declarations l = map candidate_shown l.candidates.items ≡ map candidate_shown l.initial.candidates.items ++ flat_map declared_instances (take l.declaration-index l.declarations)
