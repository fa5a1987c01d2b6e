use Rattle.std.proofs.Common.{map}
use Rattle.load_scope.specs.declared.image.ImageRow.{ImageRow}
use Rattle.reasons_names.specs.NamesNear.{candidate_shown}
use Rattle.reasons_names.specs.NamesKnown.{seen_image}
use Rattle.reasons_names.proofs.TypeTexts.{get_more}
use Rattle.reasons_names.proofs.names_known.push_rows.Goals as goal

pub rows-preserved : goal.rows-preserved
rows-preserved c =
    get_more (λ (r : ImageRow). seen_image c.args.here.now.config c.args.here.now.unit r.name.now) c.args.rows.now c.rows.row-index _ (map candidate_shown c.args.candidates.now.items) (map candidate_shown c.rows.candidates.items) (map candidate_shown c.push_image.new.candidates.items)
    c.rows-test.true c.rows.invariant c.in_ok-push_image.ensures
