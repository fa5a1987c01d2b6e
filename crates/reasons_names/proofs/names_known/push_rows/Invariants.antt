use Rattle.std.proofs.Common.{◌≡◌, ◌++◌, map, flat_map, take}
use Rattle.reasons_names.specs.NamesNear.{candidate_shown}
use Rattle.load_scope.specs.declared.image.ImageRow.{ImageRow}
use Rattle.reasons_names.specs.NamesKnown.{seen_image}
use Rattle.reasons_names.proofs.names_known.push_rows.Given as goal

abbrev pub invariant-rows : goal.invariant-rows
invariant-rows l = map candidate_shown l.candidates.items ≡ map candidate_shown l.initial.candidates.items ++ flat_map (λ (r : ImageRow). seen_image l.here.config l.here.unit r.name.now) (take l.row-index l.rows)
