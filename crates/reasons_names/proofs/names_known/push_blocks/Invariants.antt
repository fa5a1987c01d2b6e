use Rattle.std.proofs.Common.{◌≡◌, ◌++◌, map, flat_map, take}
use Rattle.reasons_names.specs.NamesNear.{candidate_shown}
use Rattle.reasons_names.specs.NamesKnown.{own_block}
use Rattle.reasons_names.proofs.names_known.push_blocks.Given as goal

abbrev pub invariant-units : goal.invariant-units
invariant-units l = map candidate_shown l.candidates.items ≡ map candidate_shown l.initial.candidates.items ++ flat_map own_block (take l.unit-index l.units)
