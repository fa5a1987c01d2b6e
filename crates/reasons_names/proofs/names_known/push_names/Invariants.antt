use Rattle.std.proofs.Common.{◌≡◌, ◌++◌, map, take}
use Rattle.reasons_names.specs.NamesNear.{candidate_shown, declared_name}
use Rattle.reasons_names.proofs.names_known.push_names.Given as goal

abbrev pub invariant-names : goal.invariant-names
invariant-names l = map candidate_shown l.candidates.items ≡ map candidate_shown l.initial.candidates.items ++ map declared_name (take l.named-index l.names)
