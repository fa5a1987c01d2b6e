use Rattle.std.proofs.Common.{map}
use Rattle.reasons_names.specs.NamesNear.{candidate_shown}
use Rattle.reasons_names.specs.NamesKnown.{own_block}
use Rattle.reasons_names.proofs.TypeTexts.{read_more}
use Rattle.reasons_names.proofs.names_known.push_blocks.Goals as goal

pub units-preserved : goal.units-preserved
units-preserved c =
    read_more own_block c.args.units.now c.units.unit-index c.unit-item.result (map candidate_shown c.args.candidates.now.items) (map candidate_shown c.units.candidates.items) (map candidate_shown c.push_block.new.candidates.items)
    c.units-test.true c.unit-item.is c.units.invariant c.in_ok-push_block.ensures
