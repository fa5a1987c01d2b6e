use Rattle.std.proofs.Common.{map}
use Rattle.il_statics.specs.declared.standard.NamedBlock.{NamedBlock}
use Rattle.reasons_names.specs.NamesNear.{candidate_shown, predeclared_name}
use Rattle.reasons_names.proofs.TypeTexts.{mapped_more}
use Rattle.reasons_names.proofs.names_known.push_block_rows.Goals as goal

pub rows-preserved : goal.rows-preserved
rows-preserved c =
    mapped_more (λ (b : NamedBlock). predeclared_name b.name.now) c.args.rows.now c.rows.row-index _ (map candidate_shown c.args.candidates.now.items) (map candidate_shown c.rows.candidates.items) (map candidate_shown c.push_known.new.candidates.items)
    c.rows-test.true c.rows.invariant c.in_ok-push_known.ensures
